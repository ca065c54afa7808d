use Rattle.std.proofs.Common.{◌≡◌, ◌≢◌, ◌<◌, ◌∙◌, pos, length, rules, arith, lit<, get_or-set_other, length-set, get_or-set_same, below_more}
use Rattle.triangle_raster.specs.Nearby.{near_seen}
use Rattle.triangle_raster.proofs.Bounds.{as_32, kept_32}
use Rattle.triangle_raster.proofs.Means.{means_from_each}
use Rattle.triangle_raster.proofs.Fragments.{mean_kept}
use Rattle.triangle_raster.proofs.fragment.near_values.Goals as goal

pub mean-requires-clause-a : goal.mean-requires-clause-a
mean-requires-clause-a c =
    let inside : c.loop-k.k < length c.args.a.now = search rules in
    as_32 (c.requires.a c.loop-k.k (pos 0) inside) (lit< tt)

pub mean-requires-clause-b : goal.mean-requires-clause-b
mean-requires-clause-b c =
    let inside : c.loop-k.k < length c.args.b.now = search rules in
    as_32 (c.requires.b c.loop-k.k (pos 0) inside) (lit< tt)

pub mean-requires-clause-c : goal.mean-requires-clause-c
mean-requires-clause-c c =
    let inside : c.loop-k.k < length c.args.c.now = search rules in
    as_32 (c.requires.c c.loop-k.k (pos 0) inside) (lit< tt)

pub loop-k-preserved : goal.loop-k-preserved
loop-k-preserved c =
    let room : c.loop-k.k < length c.loop-k.values = omega arith in
    let inside_a : c.loop-k.k < length c.args.a.now = search rules in
    let inside_b : c.loop-k.k < length c.args.b.now = search rules in
    let inside_c : c.loop-k.k < length c.args.c.now = search rules in
    record {
      size = simp length-set c.loop-k.invariant.size;
      so_far = below_more _ _
          (λ k h. let other : k ≢ c.loop-k.k = omega arith in rw get_or-set_other (c.loop-k.invariant.so_far k h))
          (rw get_or-set_same
          (kept_32 c.mean.ensures.near (lit< tt) ∙ c.mean.ensures.value
          ∙ mean_kept (near_seen c.args.near.now)
          (kept_32 (c.requires.a c.loop-k.k (pos 0) inside_a) (lit< tt))
          (kept_32 (c.requires.b c.loop-k.k (pos 0) inside_b) (lit< tt))
          (kept_32 (c.requires.c c.loop-k.k (pos 0) inside_c) (lit< tt))));
    }

pub returns : goal.returns
returns c =
    let size_a : length c.args.a.now ≡ length c.loop-k.values = omega arith in
    let size_b : length c.args.b.now ≡ length c.loop-k.values = omega arith in
    let size_c : length c.args.c.now ≡ length c.loop-k.values = omega arith in
    means_from_each (near_seen c.args.near.now) c.args.a.now c.args.b.now c.args.c.now c.loop-k.values size_a size_b size_c
    (λ k h. let below : k < c.loop-k.k = omega arith in c.loop-k.invariant.so_far k below)
