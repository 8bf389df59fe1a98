-- What an error of a booking prints.
use Rattle.std.specs.Prelude.{ℕ, List, codes}
use Rattle.calendar.specs.declared.BookError.{BookError}
use Rattle.calendar.specs.declared.BookError.TheVariants.{Empty, Taken, OutOfMemory}

-- what was wrong with the days, or that there was no memory
abbrev pub book_error_text : BookError → List ℕ
book_error_text Empty = codes "there is no day in the range"
book_error_text Taken = codes "a guest holds one of the days"
book_error_text OutOfMemory = codes "out of memory"
