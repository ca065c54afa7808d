use Rattle.fragment_ops.proofs.Keeping.{blends_at_ends}
use Rattle.fragment_ops.proofs.laws.blend_law.Goals as goal

pub returns : goal.returns
returns c = λ part inside source_byte dest_byte. blends_at_ends c.args.source c.args.dest part inside source_byte dest_byte
