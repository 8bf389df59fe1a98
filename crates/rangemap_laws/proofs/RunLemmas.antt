-- What commands answer that are run on equal maps.
use Rattle.std.proofs.Common.{arith, ◌≡◌, Bool, true, false, ◌&&◌, cond, List, [], ◌∷◌, ◌++◌, length, Option, Some, Result, Ok, Err, IsOk, Equal, refl, subst, sym, ◌∙◌, true≢false, is_lt}
use Rattle.std.specs.Cmp.{IsEquivalence, alike_right, first_so, second_so}
use Rattle.std.specs.Cmp.Lexicographic.{options_equiv}
use Rattle.std.specs.List.{AllByRecursion, AllZip}
use Rattle.std.specs.Option.{option_eq}
use Rattle.std.specs.declared.alloc.AllocError.{AllocError}
use Rattle.std.proofs.lemmas.Cmp.{and_equiv, eq_by_cmp_equiv, on_equiv}
use Rattle.rangemap_core.specs.engine.Endpoints.{EndpointOf, IsAsked, IsPlaced}
use Rattle.rangemap_core.specs.engine.PlacedKinds.{place_total}
use Rattle.rangemap_core.specs.laws.Comparisons.{same_pairs_equiv}
use Rattle.rangemap_core.specs.Ranges.{RangeKind, Alike, IsCanonOf, IsCanonical, IsStorable, covering, erase, overlapped, override, same_pair, same_pairs, value_at}
use Rattle.rangemap_core.proofs.AlikeLemmas.{Alike-turned, canon_along, erase-alike, override-alike}
use Rattle.rangemap_core.proofs.EqualListLemmas.{from_same}
use Rattle.rangemap_core.proofs.UniquenessLemmas.{alike_from_same, canon_unique, same_points}
use Rattle.rangemap_core.proofs.StoredKeyLemmas.{covering_holds}
use Rattle.rangemap_laws.specs.declared.commands.command.Answer.{Answer}
use Rattle.rangemap_laws.specs.declared.commands.command.Answer.TheVariants as answer
use Rattle.rangemap_laws.specs.declared.commands.command.Command.{Command}
use Rattle.rangemap_laws.specs.declared.commands.command.Command.TheVariants.{Insert, Remove, Clear, Len, Get, GetKeyValue, All, Overlapping}
use Rattle.rangemap_laws.specs.Runs.{IsAccepted, CommandStep, IsSameAnswer, IsSameResult, Ran}

-- one more command
pub Ran-last : {S C R : Type 0} (step : S → C → R → S → Type 0) (old mid new : S) (commands : List C) (answers : List R) (command : C) (given : R)
    → Ran step old commands answers mid → step mid command given new → Ran step old (commands ++ command ∷ []) (answers ++ given ∷ []) new
Ran-last step old mid new [] [] command given r s = (new, subst (λ from. step from command given new) r s, refl)
Ran-last step old mid new [] (a ∷ answers) command given r s = absurd r
Ran-last step old mid new (c ∷ commands) [] command given r s = absurd r
Ran-last step old mid new (c ∷ commands) (a ∷ answers) command given r s = (r.0, r.1, Ran-last step r.0 mid new commands answers command given r.2 s)

-- two answers to two questions, where the questions have equal answers
joined : {P : Type 0} {E : P → P → Bool} → IsEquivalence E → (a b c d : P) → E a b ≡ true → E a c ≡ true → E c d ≡ true → E b d ≡ true
joined q a b c d h s i = sym (q.congr a b d h) ∙ q.congr a c d s ∙ i

module _ {K X V : Type 0} (k : RangeKind K X) {end_place : X → Option K} {part : EndpointOf X → EndpointOf X → X} (p : IsPlaced k end_place part) {eq : V → V → Bool} (e : IsEquivalence eq) where
  -- a range that was found may be stored
  pub found_storable : (list : List (X × V)) (a : X × V) (x : K) → IsCanonical k eq list → Some a ≡ covering k list x → IsStorable k a.0
  found_storable list a x can is = (covering_holds p eq list a x can (sym is)).0

  pair_equiv : IsEquivalence (same_pair k eq)
  pair_equiv = and_equiv (on_equiv (λ (a : X × V). a.0) (and_equiv (on_equiv k.start (eq_by_cmp_equiv p.total)) (on_equiv k.end (eq_by_cmp_equiv p.total)))) (on_equiv (λ (a : X × V). a.1) e)

  -- a query meets ranges with equal ends alike
  same_meets : (q r s : X) → IsAsked k q → IsStorable k r → IsStorable k s → k.cmp (k.start r) (k.start s) ≡ Equal → k.cmp (k.end r) (k.end s) ≡ Equal → k.meets q r ≡ k.meets q s
  same_meets q r s ends_are_keys sr ss starts ends =
      p.meets q r ends_are_keys sr
      ∙ (λ i. is_lt (alike_right (place_total p.total) (end_place r) (end_place s) (Some (k.start q)) (sym (p.ends r s sr ss) ∙ ends) i) && is_lt ((place_total p.total).congr (Some (k.start r)) (Some (k.start s)) (end_place q) starts i))
      ∙ sym (p.meets q s ends_are_keys ss)

  kept_alike : (a b : Bool) (l m : X × V) (ls ms : List (X × V)) → a ≡ b → same_pair k eq l m ≡ true → same_pairs k eq ls ms ≡ true → same_pairs k eq (cond a (l ∷ ls) ls) (cond b (m ∷ ms) ms) ≡ true
  kept_alike true true l m ls ms h same rest = λ i. same i && rest i
  kept_alike true false l m ls ms h same rest = absurd (true≢false h)
  kept_alike false true l m ls ms h same rest = absurd (true≢false (sym h))
  kept_alike false false l m ls ms h same rest = rest

  found_alike : (a b : Bool) (l m : X × V) (f g : Option (X × V)) → a ≡ b → same_pair k eq l m ≡ true → option_eq (same_pair k eq) f g ≡ true → option_eq (same_pair k eq) (cond a (Some l) f) (cond b (Some m) g) ≡ true
  found_alike true true l m f g h same rest = same
  found_alike true false l m f g h same rest = absurd (true≢false h)
  found_alike false true l m f g h same rest = absurd (true≢false (sym h))
  found_alike false false l m f g h same rest = rest

  -- What holds of two empty lists, and of lists with an equal pair more in front, holds of all canonical lists that are equal.
  along : (P : List (X × V) → List (X × V) → Type 0) → P [] []
      → ((l m : X × V) (ls ms : List (X × V)) → IsStorable k l.0 → IsStorable k m.0 → same_pair k eq l m ≡ true → P ls ms → P (l ∷ ls) (m ∷ ms))
      → (ls ms : List (X × V)) → IsCanonical k eq ls → IsCanonical k eq ms → same_pairs k eq ls ms ≡ true → P ls ms
  along P none more [] [] cl cm h = none
  along P none more [] (m ∷ ms) cl cm h = absurd (true≢false (sym h))
  along P none more (l ∷ ls) [] cl cm h = absurd (true≢false (sym h))
  along P none more (l ∷ ls) (m ∷ ms) cl cm h =
      more l m ls ms cl.0 cm.0 (first_so (same_pair k eq l m) (same_pairs k eq ls ms) h)
      (along P none more ls ms cl.2 cm.2 (second_so (same_pair k eq l m) (same_pairs k eq ls ms) h))

  same_overlapped : (q : X) → IsAsked k q → (ls ms : List (X × V)) → IsCanonical k eq ls → IsCanonical k eq ms → same_pairs k eq ls ms ≡ true → same_pairs k eq (overlapped k ls q) (overlapped k ms q) ≡ true
  same_overlapped q a =
      along (λ ls ms. same_pairs k eq (overlapped k ls q) (overlapped k ms q) ≡ true) refl
      (λ l m ls ms sl sm here. let both = from_same k eq l m here in
      kept_alike (k.meets q l.0) (k.meets q m.0) l m (overlapped k ls q) (overlapped k ms q) (same_meets q l.0 m.0 a sl sm both.starts both.ends) here)

  same_covering : (x : K) → k.is_key x → (ls ms : List (X × V)) → IsCanonical k eq ls → IsCanonical k eq ms → same_pairs k eq ls ms ≡ true → option_eq (same_pair k eq) (covering k ls x) (covering k ms x) ≡ true
  same_covering x key =
      along (λ ls ms. option_eq (same_pair k eq) (covering k ls x) (covering k ms x) ≡ true) refl
      (λ l m ls ms sl sm here. let both = from_same k eq l m here in
      found_alike (k.holds l.0 x) (k.holds m.0 x) l m (covering k ls x) (covering k ms x) (same_points k p l.0 m.0 x sl sm key both.starts both.ends) here)

  equal_numbers : (ls ms : List (X × V)) → IsCanonical k eq ls → IsCanonical k eq ms → same_pairs k eq ls ms ≡ true → length ls ≡ length ms
  equal_numbers = along (λ ls ms. length ls ≡ length ms) refl (λ l m ls ms sl sm here rest. omega (arith, rest))

  -- both lists are canonical, and equal
  abbrev AreEqual : List (X × V) → List (X × V) → Type 0
  AreEqual ls ms = IsCanonical k eq ls × IsCanonical k eq ms × (same_pairs k eq ls ms ≡ true)

  unchanged : (one other new after : List (X × V)) → AreEqual one other → new ≡ one → after ≡ other → AreEqual new after
  unchanged one other new after h n a = subst (λ xs. AreEqual xs after) (sym n) (subst (λ ys. AreEqual one ys) (sym a) h)

  of_alike : (f g : K → Option V) (new after : List (X × V)) → Alike k eq f g → IsCanonOf k eq f new → IsCanonOf k eq g after → AreEqual new after
  of_alike f g new after h n a = (n.canonical, a.canonical, canon_unique k p eq e f new after n (canon_along k e g f after (Alike-turned k e f g h) a))

  -- where every value is a key, as of half-open ranges
  module _ {A B : Type 0} (every : (x : K) → k.is_key x) where
    named : (given : Answer X V A) (other : Answer X V B) (a : Answer X V A) (b : Answer X V B) → given ≡ a → other ≡ b → IsSameAnswer k eq a b → IsSameAnswer k eq given other
    named given other a b g o same = subst (λ x. IsSameAnswer k eq x other) (sym g) (subst (λ y. IsSameAnswer k eq a y) (sym o) same)

    -- one command
    accepted_alike : (command : Command K X V) (one other new after : List (X × V)) (given : Answer X V A) (reply : Answer X V B) → AreEqual one other
        → IsAccepted k eq one command given new → IsAccepted k eq other command reply after → IsSameAnswer k eq given reply × AreEqual new after
    accepted_alike (Insert range value) one other new after given reply h n a =
        let before = alike_from_same k p eq e one other h.0 h.1 h.2 in (
          named given reply answer.Done answer.Done n.0 a.0 tt,
          of_alike (override k (value_at k one) range value) (override k (value_at k other) range value) new after (override-alike k e (value_at k one) (value_at k other) range range value value (λ x key. refl) (e.refl value) before) n.1 a.1,
        )
    accepted_alike (Remove range) one other new after given reply h n a =
        let before = alike_from_same k p eq e one other h.0 h.1 h.2 in (
          named given reply answer.Done answer.Done n.0 a.0 tt,
          of_alike (erase k (value_at k one) range) (erase k (value_at k other) range) new after (erase-alike k e (value_at k one) (value_at k other) range range (λ x key. refl) before) n.1 a.1,
        )
    accepted_alike Clear one other new after given reply h n a = (named given reply answer.Done answer.Done n.0 a.0 tt, unchanged [] [] new after (tt, tt, refl) n.1 a.1)
    accepted_alike Len one other new after given reply h n a = (
      named given reply (answer.Len (length one)) (answer.Len (length other)) n.0 a.0 (equal_numbers one other h.0 h.1 h.2),
      unchanged one other new after h n.1 a.1,
    )
    accepted_alike (Get key) one other new after given reply h n a = (
      named given reply (answer.Value n.0) (answer.Value a.0) n.1 a.1
          (joined (options_equiv e) (value_at k one key) n.0 (value_at k other key) a.0 n.2 (alike_from_same k p eq e one other h.0 h.1 h.2 key (every key)) a.2),
      unchanged one other new after h n.3 a.3,
    )
    accepted_alike (GetKeyValue key) one other new after given reply h n a = (
      named given reply (answer.Pair n.0) (answer.Pair a.0) n.1 a.1
          (joined (options_equiv pair_equiv) (covering k one key) n.0 (covering k other key) a.0 n.2 (same_covering key (every key) one other h.0 h.1 h.2) a.2),
      unchanged one other new after h n.4 a.4,
    )
    accepted_alike All one other new after given reply h n a = (
      named given reply (answer.Pairs n.0) (answer.Pairs a.0) n.1 a.1 (joined (same_pairs_equiv k p.total e) one n.0.items other a.0.items n.2 h.2 a.2),
      unchanged one other new after h n.4 a.4,
    )
    accepted_alike (Overlapping query) one other new after given reply h n a =
        let ends_are_keys : IsAsked k query = record { start_is_key = every (k.start query); end_is_key = every (k.end query) } in (
          named given reply (answer.Pairs n.0) (answer.Pairs a.0) n.1 a.1
              (joined (same_pairs_equiv k p.total e) (overlapped k one query) n.0.items (overlapped k other query) a.0.items n.2 (same_overlapped query ends_are_keys one other h.0 h.1 h.2) a.2),
          unchanged one other new after h n.4 a.4,
        )

    -- commands, one after another, all of which are accepted
    pub run_alike : (commands : List (Command K X V)) (one other new after : List (X × V)) (answers : List (Result (Answer X V A) AllocError)) (replies : List (Result (Answer X V B) AllocError))
        → IsCanonical k eq one → IsCanonical k eq other → same_pairs k eq one other ≡ true → Ran (CommandStep k eq) one commands answers new → Ran (CommandStep k eq) other commands replies after
        → AllByRecursion IsOk answers → AllByRecursion IsOk replies → AllZip (IsSameResult k eq) answers replies × (same_pairs k eq new after ≡ true)
    run_alike commands one other new after answers replies co ct same r s os ot = go commands one other answers replies (co, ct, same) r s os ot
      where
        go : (commands : List (Command K X V)) (one other : List (X × V)) (answers : List (Result (Answer X V A) AllocError)) (replies : List (Result (Answer X V B) AllocError))
            → AreEqual one other → Ran (CommandStep k eq) one commands answers new → Ran (CommandStep k eq) other commands replies after
            → AllByRecursion IsOk answers → AllByRecursion IsOk replies → AllZip (IsSameResult k eq) answers replies × (same_pairs k eq new after ≡ true)
        go [] one other [] [] h r s os ot = (tt, (unchanged one other new after h r s).2)
        go [] one other [] (b ∷ bs) h r s os ot = absurd s
        go [] one other (a ∷ gs) bs h r s os ot = absurd r
        go (c ∷ cs) one other [] bs h r s os ot = absurd r
        go (c ∷ cs) one other (a ∷ gs) [] h r s os ot = absurd s
        go (c ∷ cs) one other (Err x ∷ gs) (b ∷ bs) h r s os ot = absurd (true≢false (sym os.0))
        go (c ∷ cs) one other (Ok x ∷ gs) (Err y ∷ bs) h r s os ot = absurd (true≢false (sym ot.0))
        go (c ∷ cs) one other (Ok x ∷ gs) (Ok y ∷ bs) h r s os ot =
            let first = accepted_alike c one other r.0 s.0 x y h r.1 s.1 in
            let rest = go cs r.0 s.0 gs bs first.1 r.2 s.2 os.1 ot.1 in
            ((first.0, rest.0), rest.1)
