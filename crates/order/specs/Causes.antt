-- The words in which each refusal is told.
use Rattle.std.specs.Prelude.{ℕ, List, codes}
use Rattle.order.specs.declared.cause.Cause.{Cause}
use Rattle.order.specs.declared.cause.Cause.TheVariants.{UnknownKey, TooLong, NotANumber, OutOfRange, UnknownMode}

abbrev pub words_of : Cause → List ℕ
words_of UnknownKey = codes "unknown key"
words_of TooLong = codes "value too long"
words_of NotANumber = codes "not a number"
words_of OutOfRange = codes "number out of range"
words_of UnknownMode = codes "unknown mode"
