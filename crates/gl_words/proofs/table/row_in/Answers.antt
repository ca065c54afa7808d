-- what stands at the place of the number
use Rattle.std.proofs.Common.{◌≡◌, ℕ, List, sym, ap, ◌∙◌, arith, Some, None, Option, get_or, Bor}
use Rattle.std.specs.Option.{option_map}
use Rattle.std.specs.Prelude.{unwrap_or}
use Rattle.gl_words.proofs.Places.{row_is_found, no_row_is_found}
use Rattle.gl_words.specs.declared.table.TableRow.{TableRow}
use Rattle.gl_words.proofs.table.row_in.Goals as goal

stands : (rows : List (Option TableRow)) (at id : ℕ) (found : Option (Bor (Option TableRow))) (field : Bor (Option TableRow)) (held : Option TableRow)
    → unwrap_or (option_map (λ x. x.now) found) None ≡ get_or rows at None → at ≡ id → found ≡ Some field → field.now ≡ held → get_or rows id None ≡ held
stands rows at id found field held there same is what =
    ap (λ (n : ℕ). get_or rows n None) (sym same) ∙ sym there ∙ ap (λ (o : Option (Bor (Option TableRow))). unwrap_or (option_map (λ x. x.now) o) None) is ∙ what

stands_nothing : (rows : List (Option TableRow)) (at id : ℕ) (found : Option (Bor (Option TableRow)))
    → unwrap_or (option_map (λ x. x.now) found) None ≡ get_or rows at None → at ≡ id → found ≡ None → get_or rows id None ≡ None
stands_nothing rows at id found there same is =
    ap (λ (n : ℕ). get_or rows n None) (sym same) ∙ sym there ∙ ap (λ (o : Option (Bor (Option TableRow))). unwrap_or (option_map (λ x. x.now) o) None) is

pub returns-in-Some-Some : goal.returns-in-Some-Some
returns-in-Some-Some c =
    row_is_found c.args.rows.now c.args.id c.in-Some-Some.row c.requires
    (stands c.args.rows.now c.from.result c.args.id c.get.result c.in-Some-Some.field-0 (Some c.in-Some-Some.row)
    (c.get.ensures.lookup.4 (omega arith) None) c.from.ensures c.in-Some-Some.is c.in-Some-Some.field-0-is)

pub returns-in-Some-None : goal.returns-in-Some-None
returns-in-Some-None c =
    no_row_is_found c.args.rows.now c.args.id c.requires
    (stands c.args.rows.now c.from.result c.args.id c.get.result c.in-Some-None.field-0 None
    (c.get.ensures.lookup.4 (omega arith) None) c.from.ensures c.in-Some-None.is c.in-Some-None.field-0-is)

pub returns-in-None : goal.returns-in-None
returns-in-None c =
    no_row_is_found c.args.rows.now c.args.id c.requires
    (stands_nothing c.args.rows.now c.from.result c.args.id c.get.result
    (c.get.ensures.lookup.4 (omega arith) None) c.from.ensures c.in-None.is)
