use Rattle.std.proofs.Common.{sym, arith, below_more}
use Rattle.std.proofs.lemmas.Slice.Eq.{bytes_eq-Decides}
use Rattle.gl_words.proofs.Counts.{number_stands}
use Rattle.gl_words.proofs.Shapes.{found_is_named, not_named_where_none, not_named_where_other}
use Rattle.gl_words.proofs.lookup.row_named.Goals as goal
use Rattle.gl_words.proofs.lookup.row_named.Goals.{in-Some+else-eq, in_default}

pub returns-then-eq : goal.returns-then-eq
returns-then-eq c =
    let name = c.args.name.now in
    let row = c.in-Some.row.now in
    found_is_named _ row name c.in-Some.ensures ((bytes_eq-Decides row.name.now name).0 (sym c.if-eq.ensures))

pub loop-id-preserved : goal.loop-id-preserved
loop-id-preserved c =
    let name = c.args.name.now in
    elim c.match-row_numbered.branch [
      | in-Some+else-eq w ↦ below_more _ _ c.loop-id.invariant (not_named_where_other _ w.in-Some.row.now name w.in-Some.ensures (λ same.
          let equal = (bytes_eq-Decides w.in-Some.row.now.name.now name).1 same in
          absurd (cc (equal, w.if-eq.ensures))))
      | in_default w ↦ below_more _ _ c.loop-id.invariant (not_named_where_none _ name w.in_default.ensures)
    ]

pub returns : goal.returns
returns c = λ call same.
    let w = number_stands c.numbers_by_length.result.now c.numbers_by_length.ensures c.args.name.now c.of_length-numbers.result.now c.of_length-numbers.ensures call same in
    c.loop-id.invariant (w.0) (omega (arith, w.1)) call (w.2) same
