-- What a formatter has written, one text after another, where some texts may not be known.
use Rattle.std.proofs.Common.{◌≡◌, subst, ℕ, List, [], Option, Some, None, IfSome, IsOk, Result}
use Rattle.std.specs.Fmt.{IsPlainFormatter, HasWritten, DisplaysOnOk, ◌++?◌}
use Rattle.std.specs.declared.fmt.Error.{Error}
use Rattle.std.specs.declared.fmt.Formatter.{Formatter}
use Rattle.std.proofs.Output.{has_written_append, writes_in_calls_nil}

module _ {W : Type 0} (took : W → List ℕ → W → Type 0) where
  -- g is f after writing the text, if it is known
  abbrev pub Shows : Formatter W → Option (List ℕ) → Formatter W → Type 0
  Shows f o g = IfSome o (λ bs. HasWritten took f bs g)

  pub shows_nothing : (f : Formatter W) → IsPlainFormatter f → Shows f (Some []) f
  shows_nothing f p = record { wrote = writes_in_calls_nil took _; plain = p }

  -- one text, and then another
  pub shows_then : (f g h : Formatter W) (o p : Option (List ℕ)) → Shows f o g → (IsPlainFormatter g → Shows g p h) → Shows f (o ++? p) h
  shows_then f g h None p x y = tt
  shows_then f g h (Some a) None x y = tt
  shows_then f g h (Some a) (Some b) x y = has_written_append took f a g b h x (y x.plain)

  module _ (f g : Formatter W) (r : Result (Unit {0}) Error) where
    pub shows_from : (o : Option (List ℕ)) → DisplaysOnOk took f r o g → IsPlainFormatter f → IsOk r → Shows f o g
    shows_from None x p ok = tt
    shows_from (Some a) x p ok = x p ok

    pub displays_from : (o : Option (List ℕ)) → (IsPlainFormatter f → IsOk r → Shows f o g) → DisplaysOnOk took f r o g
    displays_from None k = tt
    displays_from (Some a) k = k

    -- the same of a text that is given in another way
    pub shows_twin : (o p : Option (List ℕ)) → o ≡ p → DisplaysOnOk took f r o g → IsPlainFormatter f → IsOk r → Shows f p g
    shows_twin o p same x plain ok = subst (λ q. Shows f q g) same (shows_from o x plain ok)
