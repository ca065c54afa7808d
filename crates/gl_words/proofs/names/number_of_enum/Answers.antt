-- what is found among the names of its length is what is found among all
use Rattle.std.proofs.Common.{◌≡◌, ℕ, List, Option, ap, ◌∙◌, Bor}
use Rattle.gl_words.specs.Lookup.{seen_names, found_in, of_length}
use Rattle.gl_words.specs.Names.{names, AreGroups}
use Rattle.gl_words.specs.declared.names.Name.{Name}
use Rattle.gl_words.proofs.Tables.{found_is_in_names, in_names_is_found, found_by_length}
use Rattle.gl_words.proofs.names.number_of_enum.Goals as goal
use Rattle.std.proofs.Common.{length}

found_in_all : (groups : List (Bor (List Name))) (group : List Name) (name : List ℕ) (result : Option ℕ) → AreGroups groups → group ≡ of_length groups (length name) → result ≡ found_in (seen_names group) name
    → result ≡ found_in names name
found_in_all groups group name result h same is = is ∙ ap (λ (rows : List Name). found_in (seen_names rows) name) same ∙ found_by_length groups h name

pub returns-clause-gives : goal.returns-clause-gives
returns-clause-gives c = found_in_all c.names_by_length.result.now c.of_length.result.now c.args.name.now c.number_in.result c.names_by_length.ensures c.of_length.ensures c.number_in.ensures

pub returns-clause-found : goal.returns-clause-found
returns-clause-found c =
    found_is_in_names c.args.name.now c.number_in.result
    (found_in_all c.names_by_length.result.now c.of_length.result.now c.args.name.now c.number_in.result c.names_by_length.ensures c.of_length.ensures c.number_in.ensures)

pub returns-clause-only : goal.returns-clause-only
returns-clause-only c = λ n h.
    found_in_all c.names_by_length.result.now c.of_length.result.now c.args.name.now c.number_in.result c.names_by_length.ensures c.of_length.ensures c.number_in.ensures
    ∙ in_names_is_found c.args.name.now n h
