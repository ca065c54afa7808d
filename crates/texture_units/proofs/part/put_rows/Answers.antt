use Rattle.std.proofs.Common.{◌≡◌, ℕ, ◌+◌, ◌*◌, ◌≤◌, ap, ◌∙◌, arith}
use Rattle.std.proofs.lemmas.Nat.{mul-le, row_fits}
use Rattle.texture_units.specs.Part.{block, byte_after}
use Rattle.texture_units.proofs.Parts.{byte_after-more, byte_after-none, bytes_after-each}
use Rattle.texture_units.proofs.part.put_rows.Goals as goal

pub loop-row-init : goal.loop-row-init
loop-row-init c = byte_after-none c.args.stride c.args.first c.args.run c.args.bottom c.args.part.now c.args.bytes.now

pub overflow_mul-to : goal.overflow_mul-to
overflow_mul-to c =
    let most : (c.args.bottom + c.loop-row.row) * c.args.stride ≤ 256 * 1024 = mul-le (c.args.bottom + c.loop-row.row) c.args.stride 256 1024 (omega arith) c.requires.narrow in
    omega arith

pub overflow_add-to-in-loop-row : goal.overflow_add-to-in-loop-row
overflow_add-to-in-loop-row c =
    let most : (c.args.bottom + c.loop-row.row) * c.args.stride ≤ 256 * 1024 = mul-le (c.args.bottom + c.loop-row.row) c.args.stride 256 1024 (omega arith) c.requires.narrow in
    omega arith

pub overflow_mul-from : goal.overflow_mul-from
overflow_mul-from c =
    let most : c.loop-row.row * c.args.run ≤ 256 * 1024 = mul-le c.loop-row.row c.args.run 256 1024 (omega arith) (omega arith) in
    omega arith

pub put_run-requires-clause-room : goal.put_run-requires-clause-room
put_run-requires-clause-room c =
    let next : (c.args.bottom + c.loop-row.row + 1) * c.args.stride ≤ (c.args.bottom + c.args.rows) * c.args.stride =
    mul-le (c.args.bottom + c.loop-row.row + 1) c.args.stride (c.args.bottom + c.args.rows) c.args.stride (omega arith) (omega arith) in
    omega arith

pub put_run-requires-clause-bytes : goal.put_run-requires-clause-bytes
put_run-requires-clause-bytes c =
    let fits = row_fits c.loop-row.row c.args.run c.args.rows c.args.run (omega arith) (omega arith) in
    omega arith

pub loop-row-preserved : goal.loop-row-preserved
loop-row-preserved c =
    byte_after-more c.args.stride c.args.first c.args.run c.args.bottom c.loop-row.row c.args.part.now c.args.bytes.now c.loop-row.bytes c.put_run.new.bytes
    c.requires.some c.requires.wide
    (record { before = c.put_run.ensures.before; inside = c.put_run.ensures.inside; after = c.put_run.ensures.after })
    c.loop-row.invariant

pub returns : goal.returns
returns c =
    let all : c.loop-row.row ≡ c.args.rows = omega arith in
    bytes_after-each (block c.args.stride c.args.first c.args.run c.args.bottom c.args.rows) c.args.part.now c.args.bytes.now c.loop-row.bytes (omega arith)
    (λ at. c.loop-row.invariant at
    ∙ ap (λ (n : ℕ). byte_after (block c.args.stride c.args.first c.args.run c.args.bottom n) c.args.part.now c.args.bytes.now at) all)
