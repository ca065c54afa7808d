-- How a run ends, as a number and as text; own.
use Rattle.std.specs.Prelude.{ℕ, List, ◌++◌, codes}
use Rattle.std.specs.Fmt.{decimal}
use Rattle.replay_text.specs.declared.status.Status.{Status}
use Rattle.replay_text.specs.declared.status.Status.TheVariants.{Ok, BadWords, ReadFault, BadScript, ShelfFault, WriteFault, NoMemory}
use Rattle.script_reader.specs.declared.error.Limit.{Limit}
use Rattle.script_reader.specs.declared.error.Limit.TheVariants.{Contexts, Lines, ImageBytes, UploadBytes, SourceBytes}
use Rattle.script_reader.specs.declared.error.ScriptFault.{ScriptFault}
use Rattle.script_reader.specs.declared.error.ScriptFault.TheVariants.{NotText, BadHeader, UnknownWord, WrongCount, BadNumber, OutOfRange, NoSuchContext, TooMany, NoEnd, AfterEnd}

-- the exit status of a program; own
abbrev pub exit_code_of : Status → ℕ
exit_code_of Ok = 0
exit_code_of BadWords = 2
exit_code_of ReadFault = 3
exit_code_of (BadScript error) = 4
exit_code_of (ShelfFault stored) = 5
exit_code_of WriteFault = 6
exit_code_of NoMemory = 7

-- the name of a limit that is passed; own
abbrev pub limit_text : Limit → List ℕ
limit_text Contexts = codes "TooMany Contexts"
limit_text Lines = codes "TooMany Lines"
limit_text ImageBytes = codes "TooMany ImageBytes"
limit_text UploadBytes = codes "TooMany UploadBytes"
limit_text SourceBytes = codes "TooMany SourceBytes"

-- the name of a fault, and of the limit that is passed; own
abbrev pub fault_text : ScriptFault → List ℕ
fault_text NotText = codes "NotText"
fault_text BadHeader = codes "BadHeader"
fault_text UnknownWord = codes "UnknownWord"
fault_text WrongCount = codes "WrongCount"
fault_text BadNumber = codes "BadNumber"
fault_text OutOfRange = codes "OutOfRange"
fault_text NoSuchContext = codes "NoSuchContext"
fault_text (TooMany limit) = limit_text limit
fault_text NoEnd = codes "NoEnd"
fault_text AfterEnd = codes "AfterEnd"

-- the text of a status; own
unfoldable pub status_text : Status → List ℕ
status_text Ok = codes "glreplay: done"
status_text BadWords = codes "glreplay: bad words"
status_text ReadFault = codes "glreplay: read fault"
status_text (BadScript error) = codes "glreplay: line " ++ (decimal error.line ++ (codes ": " ++ fault_text error.fault))
status_text (ShelfFault stored) = codes "glreplay: shelf fault after " ++ (decimal stored ++ codes " images")
status_text WriteFault = codes "glreplay: write fault"
status_text NoMemory = codes "glreplay: no memory"
