use Rattle.std.proofs.Common.{◌≡◌, ℕ, ◌++◌, ◌∙◌, take, length, ap, sym, rules, length-append, Result, Ok, Err}
use Rattle.gl_outside.specs.Moved.{TakesAtMost}
use Rattle.std.specs.Prelude.{OnErr}
use Rattle.gl_outside.proofs.Outside.{Takes-append}
use Rattle.gl_outside.proofs.reading.read_up_to.Goals as goal

pub reading-preserved : goal.reading-preserved
reading-preserved g c = record {
  taken =
      rw (c.in_ok-extend_from_slice.ensures.items, c.split_at.ensures.front)
      (Takes-append _ _ _ _ _ c.reading.invariant.taken c.in_ok-n.ensures.ok);
  within = search rules;
  kept = c.in_ok-n.ensures.kept ∙ c.reading.invariant.kept;
}

-- a fact that holds anyway holds at an error
OnErr-always : {T F P : Type 0} (r : Result T F) → P → OnErr r P
OnErr-always (Ok x) p = tt
OnErr-always (Err e) p = p

pub returns-in_err-extend_from_slice-clause-err : goal.returns-in_err-extend_from_slice-clause-err
returns-in_err-extend_from_slice-clause-err g c =
    let taken_here : length (take c.in_ok-n.n c.read.new.buf) ≡ c.in_ok-n.n = ap length (sym c.split_at.ensures.front) ∙ c.split_at.ensures.front_len in
    let at_most : TakesAtMost {X = ℕ} c.args.limit (g.S.Source.left c.args.source.now) (g.S.Source.left c.read.new.self) = record {
      some = c.reading.bytes.items ++ take c.in_ok-n.n c.read.new.buf;
      taken = Takes-append _ _ _ _ _ c.reading.invariant.taken c.in_ok-n.ensures.ok;
      few = rw (length-append c.reading.bytes.items (take c.in_ok-n.n c.read.new.buf), taken_here) (search rules);
    } in
    OnErr-always c.from_residual-in_err-extend_from_slice.result at_most
