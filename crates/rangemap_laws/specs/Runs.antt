-- What commands on a map answer, and what they make of its pairs.
use Rattle.std.specs.Prelude.{◌≡◌, ◌≢◌, ⊤, IfSome, Bool, true, List, [], ◌∷◌, length, Option, None, Result, Ok, Err, Vec}
use Rattle.std.specs.Option.{option_eq}
use Rattle.std.specs.declared.alloc.AllocError.{AllocError}
use Rattle.rangemap_laws.specs.declared.commands.command.Answer.{Answer}
use Rattle.rangemap_laws.specs.declared.commands.command.Answer.TheVariants as answer
use Rattle.rangemap_laws.specs.declared.commands.command.Command.{Command}
use Rattle.rangemap_laws.specs.declared.commands.command.Command.TheVariants.{Insert, Remove, Clear, Len, Get, GetKeyValue, All, Overlapping}
use Rattle.rangemap_core.specs.Ranges.{RangeKind, AreStorable, IsCanonOf, IsStorable, covering, erase, overlapped, override, same_pair, same_pairs, value_at}

-- The range of an insert or a removal is not empty. Of other commands nothing is asked.
abbrev pub IsAllowed : {K X V : Type 0} → RangeKind K X → Command K X V → Type 0
IsAllowed k (Insert range value) = k.IsNonEmpty range
IsAllowed k (Remove range) = k.IsNonEmpty range
IsAllowed k _ = ⊤

module _ {K X V : Type 0} (k : RangeKind K X) (eq : V → V → Bool) where
  -- A command was accepted on a map of the pairs `old`, answered, and left the pairs `new`. What it asked for it answers up to
  -- equality, in ranges that may be stored again, and then nothing changed.
  abbrev pub IsAccepted : {A : Type 0} → List (X × V) → Command K X V → Answer X V A → List (X × V) → Type 0
  IsAccepted old (Insert range value) given new = (given ≡ answer.Done) × IsCanonOf k eq (override k (value_at k old) range value) new
  IsAccepted old (Remove range) given new = (given ≡ answer.Done) × IsCanonOf k eq (erase k (value_at k old) range) new
  IsAccepted old Clear given new = (given ≡ answer.Done) × (new ≡ [])
  IsAccepted old Len given new = (given ≡ answer.Len (length old)) × (new ≡ old)
  IsAccepted old (Get key) given new = (value : Option V) × (given ≡ answer.Value value) × (option_eq eq (value_at k old key) value ≡ true) × (new ≡ old)
  IsAccepted old (GetKeyValue key) given new = (pair : Option (X × V)) × (given ≡ answer.Pair pair) × (option_eq (same_pair k eq) (covering k old key) pair ≡ true) × IfSome pair (λ p. IsStorable k p.0) × (new ≡ old)
  IsAccepted {A} old All given new = (pairs : Vec (X × V) A) × (given ≡ answer.Pairs pairs) × (same_pairs k eq old pairs.items ≡ true) × AreStorable k pairs.items × (new ≡ old)
  IsAccepted {A} old (Overlapping query) given new = (pairs : Vec (X × V) A) × (given ≡ answer.Pairs pairs) × (same_pairs k eq (overlapped k old query) pairs.items ≡ true) × AreStorable k pairs.items × (new ≡ old)

-- A command was refused, and nothing changed. Clearing and counting are never refused, nor is a removal that meets nothing, nor what asks of a key that no range has.
abbrev pub IsRefused : {K X V : Type 0} → RangeKind K X → List (X × V) → Command K X V → List (X × V) → Type 0
IsRefused k old (Insert range value) new = new ≡ old
IsRefused k old (Remove range) new = (new ≡ old) × (overlapped k old range ≢ [])
IsRefused k old Clear new = ⊥
IsRefused k old Len new = ⊥
IsRefused k old (Get key) new = (new ≡ old) × (covering k old key ≢ None)
IsRefused k old (GetKeyValue key) new = (new ≡ old) × (covering k old key ≢ None)
IsRefused k old All new = new ≡ old
IsRefused k old (Overlapping query) new = new ≡ old

-- what one command answers and makes
abbrev pub CommandStep : {K X V A : Type 0} → RangeKind K X → (V → V → Bool) → List (X × V) → Command K X V → Result (Answer X V A) AllocError → List (X × V) → Type 0
CommandStep k eq old command (Ok given) new = IsAccepted k eq old command given new
CommandStep k eq old command (Err e) new = IsRefused k old command new

-- `step` says what one command answers and makes; this says it of commands in turn, with an answer each
abbrev pub Ran : {S C R : Type 0} → (S → C → R → S → Type 0) → S → List C → List R → S → Type 0
Ran step old [] [] new = new ≡ old
Ran {S} step old (command ∷ commands) (given ∷ answers) new = (mid : S) × step old command given mid × Ran step mid commands answers new
Ran step old [] (given ∷ answers) new = ⊥
Ran step old (command ∷ commands) [] new = ⊥

-- answers of one sort, with equal keys and values
abbrev pub IsSameAnswer : {K X V A B : Type 0} → RangeKind K X → (V → V → Bool) → Answer X V A → Answer X V B → Type 0
IsSameAnswer k eq answer.Done answer.Done = ⊤
IsSameAnswer k eq (answer.Len m) (answer.Len n) = m ≡ n
IsSameAnswer k eq (answer.Value v) (answer.Value w) = option_eq eq v w ≡ true
IsSameAnswer k eq (answer.Pair p) (answer.Pair q) = option_eq (same_pair k eq) p q ≡ true
IsSameAnswer k eq (answer.Pairs ps) (answer.Pairs qs) = same_pairs k eq ps.items qs.items ≡ true
IsSameAnswer k eq given other = ⊥

-- the same of two commands that were accepted
abbrev pub IsSameResult : {K X V A B : Type 0} → RangeKind K X → (V → V → Bool) → Result (Answer X V A) AllocError → Result (Answer X V B) AllocError → Type 0
IsSameResult k eq (Ok given) (Ok other) = IsSameAnswer k eq given other
IsSameResult k eq given other = ⊥
