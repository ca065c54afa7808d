use Rattle.std.proofs.Common.{◌≡◌, pos, get_or, rules, w32, to_z, of_z}
use Rattle.std.specs.Int.{w64}
use Rattle.std.proofs.lemmas.Int.{to_z-of_z}
use Rattle.fixed_transform.specs.Matrix.{image_part}
use Rattle.fixed_transform.proofs.matrix.Matrix.image_part.Goals as goal

pub returns : goal.returns
unfolding image_part
returns c =
    let entry_0 : to_z w32 (of_z w32 c.entry.result) ≡ c.entry.result = to_z-of_z w32 c.entry.result (search rules) in
    let part_0 : to_z w32 (of_z w32 (get_or c.args.v.now 0 (pos 0))) ≡ get_or c.args.v.now 0 (pos 0) = to_z-of_z w32 (get_or c.args.v.now 0 (pos 0)) (search rules) in
    let product_0 : to_z w64 (of_z w64 c.product.result) ≡ c.product.result = to_z-of_z w64 c.product.result (search rules) in
    let entry_1 : to_z w32 (of_z w32 c.entry-2.result) ≡ c.entry-2.result = to_z-of_z w32 c.entry-2.result (search rules) in
    let part_1 : to_z w32 (of_z w32 (get_or c.args.v.now 1 (pos 0))) ≡ get_or c.args.v.now 1 (pos 0) = to_z-of_z w32 (get_or c.args.v.now 1 (pos 0)) (search rules) in
    let product_1 : to_z w64 (of_z w64 c.product-2.result) ≡ c.product-2.result = to_z-of_z w64 c.product-2.result (search rules) in
    let entry_2 : to_z w32 (of_z w32 c.entry-3.result) ≡ c.entry-3.result = to_z-of_z w32 c.entry-3.result (search rules) in
    let part_2 : to_z w32 (of_z w32 (get_or c.args.v.now 2 (pos 0))) ≡ get_or c.args.v.now 2 (pos 0) = to_z-of_z w32 (get_or c.args.v.now 2 (pos 0)) (search rules) in
    let product_2 : to_z w64 (of_z w64 c.product-3.result) ≡ c.product-3.result = to_z-of_z w64 c.product-3.result (search rules) in
    let entry_3 : to_z w32 (of_z w32 c.entry-4.result) ≡ c.entry-4.result = to_z-of_z w32 c.entry-4.result (search rules) in
    let part_3 : to_z w32 (of_z w32 (get_or c.args.v.now 3 (pos 0))) ≡ get_or c.args.v.now 3 (pos 0) = to_z-of_z w32 (get_or c.args.v.now 3 (pos 0)) (search rules) in
    let product_3 : to_z w64 (of_z w64 c.product-4.result) ≡ c.product-4.result = to_z-of_z w64 c.product-4.result (search rules) in
    let fixed : to_z w32 (of_z w32 c.fixed.result) ≡ c.fixed.result = to_z-of_z w32 c.fixed.result (search rules) in
    cc
