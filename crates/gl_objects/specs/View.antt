-- The objects that contexts share, as plain data. No store and no image shares bytes with another.
use Rattle.std.specs.Prelude.{ℕ, List}
use Rattle.gl_objects.specs.declared.named.Named.{Named}
use Rattle.gl_objects.specs.declared.texture.TextureObject.{TextureObject}

-- the names of each kind that are in use, in rising order, with what they stand for: a buffer is the bytes of its store, a
-- texture its image and how it is read (sections 2.9 and 3.7.11); and the default textures, that of context k at place k, which
-- exist always (section 3.7.11, that there is one a context own)
pub record ObjectsView : Type 0 where
  pub buffers : List (ℕ × Named (List ℕ))
  pub textures : List (ℕ × Named TextureObject)
  pub defaults : List TextureObject
