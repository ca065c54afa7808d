-- The table of calls, a row a call. Its names and numbers are this project's own; the calls and their arguments are those of OpenGL ES 1.1.12.
use Rattle.std.specs.Prelude.{Bool, true, false, ℕ, ℤ, pos, List, [], ◌∷◌, codes}
use Rattle.gl_words.specs.Kind.{AreOfKinds}
use Rattle.gl_words.specs.Making.{◌&◌, Maker, Values, integers, values_at, made_by}
use Rattle.gl_words.specs.declared.shape.ArgKind.{ArgKind}
use Rattle.gl_words.specs.declared.shape.ArgKind.TheVariants.{Enum, Unsigned, Int, Fixed, Bool as Truth, Pointer}
use Rattle.gl_words.specs.declared.call.Call.{Call}
use Rattle.gl_words.specs.declared.call.Call.TheVariants as gl

-- a call's number, its name without `gl`, the kinds of its arguments, what makes such a call and what this one holds, its
-- arguments, the call that integers at places 0, 1, .. make, and whether it is answered; own
pub record Row : Type 0 where
  pub id : ℕ
  pub name : List ℕ
  pub kinds : List ArgKind
  pub make : Maker kinds
  pub values : Values kinds
  pub arguments : List ℤ
  pub again : List ℤ → Call
  pub answering : Bool

-- a row of which the rest follows; own
abbrev pub row : ℕ → List ℕ → (kinds : List ArgKind) → Maker kinds → Values kinds → Bool → Row
row id name kinds make values answering = record {
  id = id;
  name = name;
  kinds = kinds;
  make = make;
  values = values;
  arguments = integers kinds values;
  again = λ args. made_by kinds make (values_at kinds args 0);
  answering = answering;
}

-- a row of the part of the table whose calls aren't answered; own
abbrev pub does : ℕ → List ℕ → (kinds : List ArgKind) → Maker kinds → Values kinds → Row
does id name kinds make values = row id name kinds make values false

-- a row of the answering part of the table; own
abbrev pub asks : ℕ → List ℕ → (kinds : List ArgKind) → Maker kinds → Values kinds → Row
asks id name kinds make values = row id name kinds make values true

-- the row of a call: names and arguments are those of chapters 2 to 6, kinds those of section 2.3, numbers own
unfoldable pub row_of : Call → Row
row_of (gl.ActiveTexture texture) = does 1 (codes "ActiveTexture") (Enum ∷ []) gl.ActiveTexture (texture & tt)
row_of (gl.AlphaFuncx func reference) = does 2 (codes "AlphaFuncx") (Enum ∷ Fixed ∷ []) gl.AlphaFuncx (func & reference & tt)
row_of (gl.BindBuffer target buffer) = does 3 (codes "BindBuffer") (Enum ∷ Unsigned ∷ []) gl.BindBuffer (target & buffer & tt)
row_of (gl.BindTexture target texture) = does 4 (codes "BindTexture") (Enum ∷ Unsigned ∷ []) gl.BindTexture (target & texture & tt)
row_of (gl.BlendFunc sfactor dfactor) = does 5 (codes "BlendFunc") (Enum ∷ Enum ∷ []) gl.BlendFunc (sfactor & dfactor & tt)
row_of (gl.BufferData target size source usage) = does 6 (codes "BufferData") (Enum ∷ Int ∷ Pointer ∷ Enum ∷ []) gl.BufferData (target & size & source & usage & tt)
row_of (gl.BufferSubData target offset size source) = does 7 (codes "BufferSubData") (Enum ∷ Int ∷ Int ∷ Pointer ∷ []) gl.BufferSubData (target & offset & size & source & tt)
row_of (gl.Clear mask) = does 8 (codes "Clear") (Unsigned ∷ []) gl.Clear (mask & tt)
row_of (gl.ClearColorx red green blue alpha) = does 9 (codes "ClearColorx") (Fixed ∷ Fixed ∷ Fixed ∷ Fixed ∷ []) gl.ClearColorx (red & green & blue & alpha & tt)
row_of (gl.ClearDepthx depth) = does 10 (codes "ClearDepthx") (Fixed ∷ []) gl.ClearDepthx (depth & tt)
row_of (gl.ClientActiveTexture texture) = does 11 (codes "ClientActiveTexture") (Enum ∷ []) gl.ClientActiveTexture (texture & tt)
row_of (gl.Color4x red green blue alpha) = does 12 (codes "Color4x") (Fixed ∷ Fixed ∷ Fixed ∷ Fixed ∷ []) gl.Color4x (red & green & blue & alpha & tt)
row_of (gl.ColorMask red green blue alpha) = does 13 (codes "ColorMask") (Truth ∷ Truth ∷ Truth ∷ Truth ∷ []) gl.ColorMask (red & green & blue & alpha & tt)
row_of (gl.ColorPointer size kind stride pointer) = does 14 (codes "ColorPointer") (Int ∷ Enum ∷ Int ∷ Pointer ∷ []) gl.ColorPointer (size & kind & stride & pointer & tt)
row_of (gl.CullFace mode) = does 15 (codes "CullFace") (Enum ∷ []) gl.CullFace (mode & tt)
row_of (gl.DeleteBuffers n names) = does 16 (codes "DeleteBuffers") (Int ∷ Pointer ∷ []) gl.DeleteBuffers (n & names & tt)
row_of (gl.DeleteTextures n names) = does 17 (codes "DeleteTextures") (Int ∷ Pointer ∷ []) gl.DeleteTextures (n & names & tt)
row_of (gl.DepthFunc func) = does 18 (codes "DepthFunc") (Enum ∷ []) gl.DepthFunc (func & tt)
row_of (gl.DepthMask flag) = does 19 (codes "DepthMask") (Truth ∷ []) gl.DepthMask (flag & tt)
row_of (gl.DepthRangex near far) = does 20 (codes "DepthRangex") (Fixed ∷ Fixed ∷ []) gl.DepthRangex (near & far & tt)
row_of (gl.Disable cap) = does 21 (codes "Disable") (Enum ∷ []) gl.Disable (cap & tt)
row_of (gl.DisableClientState array) = does 22 (codes "DisableClientState") (Enum ∷ []) gl.DisableClientState (array & tt)
row_of (gl.DrawArrays mode first count) = does 23 (codes "DrawArrays") (Enum ∷ Int ∷ Int ∷ []) gl.DrawArrays (mode & first & count & tt)
row_of (gl.DrawElements mode count kind indices) = does 24 (codes "DrawElements") (Enum ∷ Int ∷ Enum ∷ Pointer ∷ []) gl.DrawElements (mode & count & kind & indices & tt)
row_of (gl.Enable cap) = does 25 (codes "Enable") (Enum ∷ []) gl.Enable (cap & tt)
row_of (gl.EnableClientState array) = does 26 (codes "EnableClientState") (Enum ∷ []) gl.EnableClientState (array & tt)
row_of gl.Finish = does 27 (codes "Finish") [] gl.Finish tt
row_of gl.Flush = does 28 (codes "Flush") [] gl.Flush tt
row_of (gl.FrontFace mode) = does 29 (codes "FrontFace") (Enum ∷ []) gl.FrontFace (mode & tt)
row_of (gl.Frustumx left right bottom top near far) = does 30 (codes "Frustumx") (Fixed ∷ Fixed ∷ Fixed ∷ Fixed ∷ Fixed ∷ Fixed ∷ []) gl.Frustumx (left & right & bottom & top & near & far & tt)
row_of (gl.GenBuffers n names) = asks 31 (codes "GenBuffers") (Int ∷ Pointer ∷ []) gl.GenBuffers (n & names & tt)
row_of (gl.GenTextures n names) = asks 32 (codes "GenTextures") (Int ∷ Pointer ∷ []) gl.GenTextures (n & names & tt)
row_of gl.GetError = asks 33 (codes "GetError") [] gl.GetError tt
row_of (gl.GetFixedv pname params) = asks 34 (codes "GetFixedv") (Enum ∷ Pointer ∷ []) gl.GetFixedv (pname & params & tt)
row_of (gl.GetIntegerv pname params) = asks 35 (codes "GetIntegerv") (Enum ∷ Pointer ∷ []) gl.GetIntegerv (pname & params & tt)
row_of (gl.GetPointerv pname params) = asks 36 (codes "GetPointerv") (Enum ∷ Pointer ∷ []) gl.GetPointerv (pname & params & tt)
row_of (gl.IsBuffer buffer) = asks 37 (codes "IsBuffer") (Unsigned ∷ []) gl.IsBuffer (buffer & tt)
row_of (gl.IsEnabled cap) = asks 38 (codes "IsEnabled") (Enum ∷ []) gl.IsEnabled (cap & tt)
row_of (gl.IsTexture texture) = asks 39 (codes "IsTexture") (Unsigned ∷ []) gl.IsTexture (texture & tt)
row_of gl.LoadIdentity = does 40 (codes "LoadIdentity") [] gl.LoadIdentity tt
row_of (gl.LoadMatrixx matrix) = does 41 (codes "LoadMatrixx") (Pointer ∷ []) gl.LoadMatrixx (matrix & tt)
row_of (gl.MatrixMode mode) = does 42 (codes "MatrixMode") (Enum ∷ []) gl.MatrixMode (mode & tt)
row_of (gl.MultMatrixx matrix) = does 43 (codes "MultMatrixx") (Pointer ∷ []) gl.MultMatrixx (matrix & tt)
row_of (gl.MultiTexCoord4x target s t r q) = does 44 (codes "MultiTexCoord4x") (Enum ∷ Fixed ∷ Fixed ∷ Fixed ∷ Fixed ∷ []) gl.MultiTexCoord4x (target & s & t & r & q & tt)
row_of (gl.Normal3x nx ny nz) = does 45 (codes "Normal3x") (Fixed ∷ Fixed ∷ Fixed ∷ []) gl.Normal3x (nx & ny & nz & tt)
row_of (gl.NormalPointer kind stride pointer) = does 46 (codes "NormalPointer") (Enum ∷ Int ∷ Pointer ∷ []) gl.NormalPointer (kind & stride & pointer & tt)
row_of (gl.Orthox left right bottom top near far) = does 47 (codes "Orthox") (Fixed ∷ Fixed ∷ Fixed ∷ Fixed ∷ Fixed ∷ Fixed ∷ []) gl.Orthox (left & right & bottom & top & near & far & tt)
row_of (gl.PixelStorei pname param) = does 48 (codes "PixelStorei") (Enum ∷ Int ∷ []) gl.PixelStorei (pname & param & tt)
row_of gl.PopMatrix = does 49 (codes "PopMatrix") [] gl.PopMatrix tt
row_of gl.PushMatrix = does 50 (codes "PushMatrix") [] gl.PushMatrix tt
row_of (gl.ReadPixels x y width height format kind pixels) = asks 51 (codes "ReadPixels") (Int ∷ Int ∷ Int ∷ Int ∷ Enum ∷ Enum ∷ Pointer ∷ []) gl.ReadPixels (x & y & width & height & format & kind & pixels & tt)
row_of (gl.Rotatex angle x y z) = does 52 (codes "Rotatex") (Fixed ∷ Fixed ∷ Fixed ∷ Fixed ∷ []) gl.Rotatex (angle & x & y & z & tt)
row_of (gl.Scalex x y z) = does 53 (codes "Scalex") (Fixed ∷ Fixed ∷ Fixed ∷ []) gl.Scalex (x & y & z & tt)
row_of (gl.Scissor x y width height) = does 54 (codes "Scissor") (Int ∷ Int ∷ Int ∷ Int ∷ []) gl.Scissor (x & y & width & height & tt)
row_of (gl.ShadeModel mode) = does 55 (codes "ShadeModel") (Enum ∷ []) gl.ShadeModel (mode & tt)
row_of (gl.TexCoordPointer size kind stride pointer) = does 56 (codes "TexCoordPointer") (Int ∷ Enum ∷ Int ∷ Pointer ∷ []) gl.TexCoordPointer (size & kind & stride & pointer & tt)
row_of (gl.TexEnvi target pname param) = does 57 (codes "TexEnvi") (Enum ∷ Enum ∷ Int ∷ []) gl.TexEnvi (target & pname & param & tt)
row_of (gl.TexEnvxv target pname params) = does 58 (codes "TexEnvxv") (Enum ∷ Enum ∷ Pointer ∷ []) gl.TexEnvxv (target & pname & params & tt)
row_of (gl.TexImage2D target level internalformat width height border format kind pixels) =
    does 59 (codes "TexImage2D") (Enum ∷ Int ∷ Int ∷ Int ∷ Int ∷ Int ∷ Enum ∷ Enum ∷ Pointer ∷ []) gl.TexImage2D
    (target & level & internalformat & width & height & border & format & kind & pixels & tt)
row_of (gl.TexParameteri target pname param) = does 60 (codes "TexParameteri") (Enum ∷ Enum ∷ Int ∷ []) gl.TexParameteri (target & pname & param & tt)
row_of (gl.TexSubImage2D target level xoffset yoffset width height format kind pixels) =
    does 61 (codes "TexSubImage2D") (Enum ∷ Int ∷ Int ∷ Int ∷ Int ∷ Int ∷ Enum ∷ Enum ∷ Pointer ∷ []) gl.TexSubImage2D
    (target & level & xoffset & yoffset & width & height & format & kind & pixels & tt)
row_of (gl.Translatex x y z) = does 62 (codes "Translatex") (Fixed ∷ Fixed ∷ Fixed ∷ []) gl.Translatex (x & y & z & tt)
row_of (gl.VertexPointer size kind stride pointer) = does 63 (codes "VertexPointer") (Int ∷ Enum ∷ Int ∷ Pointer ∷ []) gl.VertexPointer (size & kind & stride & pointer & tt)
row_of (gl.Viewport x y width height) = does 64 (codes "Viewport") (Int ∷ Int ∷ Int ∷ Int ∷ []) gl.Viewport (x & y & width & height & tt)

-- one call of each row, in the order of their numbers; own
abbrev pub each_call : List Call
each_call =
    gl.ActiveTexture 0 ∷
    gl.AlphaFuncx 0 (pos 0) ∷
    gl.BindBuffer 0 0 ∷
    gl.BindTexture 0 0 ∷
    gl.BlendFunc 0 0 ∷
    gl.BufferData 0 (pos 0) 0 0 ∷
    gl.BufferSubData 0 (pos 0) (pos 0) 0 ∷
    gl.Clear 0 ∷
    gl.ClearColorx (pos 0) (pos 0) (pos 0) (pos 0) ∷
    gl.ClearDepthx (pos 0) ∷
    gl.ClientActiveTexture 0 ∷
    gl.Color4x (pos 0) (pos 0) (pos 0) (pos 0) ∷
    gl.ColorMask false false false false ∷
    gl.ColorPointer (pos 0) 0 (pos 0) 0 ∷
    gl.CullFace 0 ∷
    gl.DeleteBuffers (pos 0) 0 ∷
    gl.DeleteTextures (pos 0) 0 ∷
    gl.DepthFunc 0 ∷
    gl.DepthMask false ∷
    gl.DepthRangex (pos 0) (pos 0) ∷
    gl.Disable 0 ∷
    gl.DisableClientState 0 ∷
    gl.DrawArrays 0 (pos 0) (pos 0) ∷
    gl.DrawElements 0 (pos 0) 0 0 ∷
    gl.Enable 0 ∷
    gl.EnableClientState 0 ∷
    gl.Finish ∷
    gl.Flush ∷
    gl.FrontFace 0 ∷
    gl.Frustumx (pos 0) (pos 0) (pos 0) (pos 0) (pos 0) (pos 0) ∷
    gl.GenBuffers (pos 0) 0 ∷
    gl.GenTextures (pos 0) 0 ∷
    gl.GetError ∷
    gl.GetFixedv 0 0 ∷
    gl.GetIntegerv 0 0 ∷
    gl.GetPointerv 0 0 ∷
    gl.IsBuffer 0 ∷
    gl.IsEnabled 0 ∷
    gl.IsTexture 0 ∷
    gl.LoadIdentity ∷
    gl.LoadMatrixx 0 ∷
    gl.MatrixMode 0 ∷
    gl.MultMatrixx 0 ∷
    gl.MultiTexCoord4x 0 (pos 0) (pos 0) (pos 0) (pos 0) ∷
    gl.Normal3x (pos 0) (pos 0) (pos 0) ∷
    gl.NormalPointer 0 (pos 0) 0 ∷
    gl.Orthox (pos 0) (pos 0) (pos 0) (pos 0) (pos 0) (pos 0) ∷
    gl.PixelStorei 0 (pos 0) ∷
    gl.PopMatrix ∷
    gl.PushMatrix ∷
    gl.ReadPixels (pos 0) (pos 0) (pos 0) (pos 0) 0 0 0 ∷
    gl.Rotatex (pos 0) (pos 0) (pos 0) (pos 0) ∷
    gl.Scalex (pos 0) (pos 0) (pos 0) ∷
    gl.Scissor (pos 0) (pos 0) (pos 0) (pos 0) ∷
    gl.ShadeModel 0 ∷
    gl.TexCoordPointer (pos 0) 0 (pos 0) 0 ∷
    gl.TexEnvi 0 0 (pos 0) ∷
    gl.TexEnvxv 0 0 0 ∷
    gl.TexImage2D 0 (pos 0) (pos 0) (pos 0) (pos 0) (pos 0) 0 0 0 ∷
    gl.TexParameteri 0 0 (pos 0) ∷
    gl.TexSubImage2D 0 (pos 0) (pos 0) (pos 0) (pos 0) (pos 0) 0 0 0 ∷
    gl.Translatex (pos 0) (pos 0) (pos 0) ∷
    gl.VertexPointer (pos 0) 0 (pos 0) 0 ∷
    gl.Viewport (pos 0) (pos 0) (pos 0) (pos 0) ∷
    []

-- the name of a call, without `gl`; chapters 2 to 6
unfoldable pub name_of : Call → List ℕ
unfolding row_of
name_of call = (row_of call).name

-- the number of a call; own
unfoldable pub id_of : Call → ℕ
unfolding row_of
id_of call = (row_of call).id

-- the kinds of a call's arguments, in order; section 2.3
unfoldable pub kinds_of : Call → List ArgKind
unfolding row_of
kinds_of call = (row_of call).kinds

-- a call's arguments as integers, in order; section 2.3
unfoldable pub arguments : Call → List ℤ
unfolding row_of
arguments call = (row_of call).arguments

-- each argument of a call lies in the range of its kind; own
unfoldable pub IsInRange : Call → Type 0
IsInRange call = AreOfKinds (kinds_of call) (arguments call)

-- whether a call is answered: whether it stands in the answering part of the table; own
unfoldable pub is_answering : Call → Bool
unfolding row_of
is_answering call = (row_of call).answering

-- the call of a call's row that holds the integers at places 0, 1, ..; own
unfoldable pub again_of : Call → List ℤ → Call
unfolding row_of
again_of call args = (row_of call).again args
