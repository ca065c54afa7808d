-- What is found of a call at one look: the number for which it asks, and its error; own. Which they are stands in Step.antt and Fault.antt.
use Rattle.std.specs.Prelude.{ℤ, Option, Some, None}
use Rattle.gl_words.specs.declared.error.GlError.{GlError}
use Rattle.gl_tracked.specs.declared.finding.Finding.{Finding}
use Rattle.gl_tracked.specs.declared.finding.Finding.TheVariants.{Number, Fault}

-- the number that is found of a call, if one is; own
abbrev pub number_found : Finding → Option ℤ
number_found (Number number) = Some number
number_found (Fault fault) = None

-- the error that is found of a call: none beside a number; own
abbrev pub fault_found : Finding → Option GlError
fault_found (Number number) = None
fault_found (Fault fault) = fault
