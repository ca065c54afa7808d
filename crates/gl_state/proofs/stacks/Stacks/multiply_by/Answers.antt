use Rattle.std.proofs.Common.{ℤ, ◌≢◌, arith, rules, w32, to_z, of_z, SFits}
use Rattle.std.proofs.lemmas.Int.{ints}
use Rattle.gl_tracked.proofs.Faults.{frustum_has_frustum, ortho_has_box}
use Rattle.gl_state.proofs.stacks.Stacks.multiply_by.Goals as goal

-- numbers that are apart are so as they are passed
passed_apart : (a b : ℤ) → SFits w32 a → SFits w32 b → a ≢ b → to_z w32 (of_z w32 a) ≢ to_z w32 (of_z w32 b)
passed_apart a b fits_a fits_b apart same = apart (omega (arith, ints))

pub frustum-requires : goal.frustum-requires
frustum-requires g c =
    let call = c.in-Frustumx in
    let left : SFits w32 call.left = search rules in
    let right : SFits w32 call.right = search rules in
    let bottom : SFits w32 call.bottom = search rules in
    let top : SFits w32 call.top = search rules in
    let near : SFits w32 call.near = search rules in
    let far : SFits w32 call.far = search rules in
    let frustum = frustum_has_frustum _ _ _ _ _ _ c.args.tracked.now (rw call.is at c.requires.no_fault) in
    record {
      near = omega (arith, ints);
      far = omega (arith, ints);
      across = passed_apart call.left call.right left right frustum.sides.across;
      upward = passed_apart call.bottom call.top bottom top frustum.sides.upward;
      deep = passed_apart call.near call.far near far frustum.sides.deep;
    }

pub ortho-requires : goal.ortho-requires
ortho-requires g c =
    let call = c.in-Orthox in
    let left : SFits w32 call.left = search rules in
    let right : SFits w32 call.right = search rules in
    let bottom : SFits w32 call.bottom = search rules in
    let top : SFits w32 call.top = search rules in
    let near : SFits w32 call.near = search rules in
    let far : SFits w32 call.far = search rules in
    let box = ortho_has_box _ _ _ _ _ _ c.args.tracked.now (rw call.is at c.requires.no_fault) in
    record {
      across = passed_apart call.left call.right left right box.across;
      upward = passed_apart call.bottom call.top bottom top box.upward;
      deep = passed_apart call.near call.far near far box.deep;
    }
