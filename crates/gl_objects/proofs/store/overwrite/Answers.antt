use Rattle.std.proofs.Common.{◌≡◌, ℕ, ◌+◌, ◌-◌, List, ◌++◌, length, take, drop, ap, ◌∙◌, arith}
use Rattle.gl_objects.specs.Store.{part_written}
use Rattle.gl_objects.proofs.store.overwrite.Goals as goal

put_in : (store : List ℕ) (offset : ℕ) (bytes part : List ℕ) (count : ℕ) → part ≡ bytes → count ≡ length bytes → take offset store ++ (part ++ drop count (drop offset store)) ≡ part_written store offset bytes
unfolding part_written
put_in store offset bytes part count is same =
    ap (λ (p : List ℕ). take offset store ++ (p ++ drop count (drop offset store))) is
    ∙ ap (λ (n : ℕ). take offset store ++ (bytes ++ drop n (drop offset store))) same

pub returns : goal.returns
returns c =
    put_in c.args.all.now c.args.offset c.args.bytes.now c.copy_from_slice.new.self (c.args.offset + length c.args.bytes.now - c.args.offset)
    c.copy_from_slice.ensures.after (omega arith)
