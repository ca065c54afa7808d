use Rattle.gl_objects.proofs.FreeNames.{are_least_free}
use Rattle.gl_objects.proofs.laws.names_law.Goals as goal

pub returns-clause-buffers : goal.returns-clause-buffers
returns-clause-buffers c = λ table n. are_least_free table n

pub returns-clause-textures : goal.returns-clause-textures
returns-clause-textures c = λ table n. are_least_free table n
