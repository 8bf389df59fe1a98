-- The items of an intersection are the canonical list of the common points.
use Rattle.std.proofs.Common.{arith, ◌≡◌, Bool, true, false, ◌&&◌, ◌||◌, cond, List, [], ◌∷◌, sym, ◌∙◌, ap, ap₂, subst, refl, Less, is_lt, is_le}
use Rattle.std.proofs.Math.Bool.{and-false, and_comm}
use Rattle.std.proofs.lemmas.Bool.Decides.{nat_tests}
use Rattle.std.specs.Bool.{⊤}
use Rattle.std.specs.Cmp.{first_so, second_so}
use Rattle.std.specs.Cmp.Derive.{both_true}
use Rattle.rangemap_core.specs.operations.PlaceLaws.{HasPlaces}
use Rattle.rangemap_unions.specs.Items.{reaches, earlier_end, later_start, with_common, intersection_items}
use Rattle.rangemap_core.specs.operations.Places.{RangePlaces}
use Rattle.rangemap_core.specs.laws.Orders.{le_Less, le_Equal, le_lt, lt_le, lt_lt, itself, not_lt, lt_not_le, le_through}
use Rattle.rangemap_core.specs.Ranges.{RangeKind, IsStorable, IsCanonical, IsFollowedBy, covers, unit_eq, with_unit}
use Rattle.rangemap_core.specs.Sets.{AreCommon}
use Rattle.rangemap_core.specs.engine.EndpointKinds.{lt_is}
use Rattle.rangemap_core.proofs.GapLemmas.{covers-cons}
use Rattle.rangemap_unions.proofs.PlaceLemmas.{chosen, decided, reached, unreached}

-- p and q hold the key, or one of what follows them, and no later q where p does
common_left : (p ps q qs : Bool) → (p ≡ true → qs ≡ false) → ((p && q) || (ps && (q || qs))) ≡ ((p || ps) && (q || qs))
common_left p ps q qs h = grind (arith, nat_tests)

-- the same, and no later p where q does
common_right : (p ps q qs : Bool) → (q ≡ true → ps ≡ false) → ((p && q) || ((p || ps) && qs)) ≡ ((p || ps) && (q || qs))
common_right p ps q qs h = grind (arith, nat_tests)

-- starts a and b, ends c and d
regrouped : (a b c d : Bool) → ((a && b) && (c && d)) ≡ ((a && c) && (b && d))
regrouped a b c d = grind (arith, nat_tests)

implied_and : (a b : Bool) → (b ≡ true → a ≡ true) → (a && b) ≡ b
implied_and a b h = grind (arith, nat_tests)

and_implied : (a b : Bool) → (a ≡ true → b ≡ true) → (a && b) ≡ a
and_implied a b h = grind (arith, nat_tests)

module _ {K X P : Type 0} {k : RangeKind K X} {l : RangePlaces P X} {at cut : K → P} (p : HasPlaces k l at cut) where
  abbrev le : P → P → Type 0
  le a b = is_le (l.order a b) ≡ true

  abbrev Canonical : List X → Type 0
  Canonical rs = IsCanonical k (unit_eq k) (with_unit k rs)

  -- ---- one common part

  -- where the key is, by the starts and the ends of two ranges
  from_later : (a b : X) (q : P) → is_le (l.order (l.start_place (later_start l a b)) q) ≡ (is_le (l.order (l.start_place a) q) && is_le (l.order (l.start_place b) q))
  from_later a b q = decided (λ c. is_le (l.order (l.start_place c) q) ≡ (is_le (l.order (l.start_place a) q) && is_le (l.order (l.start_place b) q))) (is_lt (l.order (l.start_place a) (l.start_place b)))
      (λ e. sym (implied_and (is_le (l.order (l.start_place a) q)) (is_le (l.order (l.start_place b) q)) (λ h. le_through p.total _ _ _ (le_Less (lt_is _ e)) h)))
      (λ e. sym (and_implied (is_le (l.order (l.start_place a) q)) (is_le (l.order (l.start_place b) q)) (λ h. le_through p.total _ _ _ (not_lt p.total (l.start_place a) (l.start_place b) e) h)))

  up_to_earlier : (a b : X) (q : P) → is_lt (l.order q (l.end_place (earlier_end l a b))) ≡ (is_lt (l.order q (l.end_place a)) && is_lt (l.order q (l.end_place b)))
  up_to_earlier a b q = decided (λ c. is_lt (l.order q (l.end_place c)) ≡ (is_lt (l.order q (l.end_place a)) && is_lt (l.order q (l.end_place b)))) (is_lt (l.order (l.end_place a) (l.end_place b)))
      (λ e. sym (and_implied (is_lt (l.order q (l.end_place a))) (is_lt (l.order q (l.end_place b))) (λ h. ap is_lt (lt_le p.total (lt_is _ h) (le_Less (lt_is _ e))))))
      (λ e. sym (implied_and (is_lt (l.order q (l.end_place a))) (is_lt (l.order q (l.end_place b))) (λ h. ap is_lt (lt_le p.total (lt_is _ h) (not_lt p.total (l.end_place a) (l.end_place b) e)))))

  -- ranges of which the later start comes before the earlier end reach one another
  pub both_reached : (a b first last : X) → first ≡ later_start l a b → last ≡ earlier_end l a b → reaches l last first ≡ true → (reaches l a b && reaches l b a) ≡ true
  both_reached a b first last starts ends h =
      let q = l.start_place (later_start l a b) in
      let apart : is_lt (l.order q (l.end_place (earlier_end l a b))) ≡ true =
      sym (ap (λ r. reaches l r first) ends ∙ ap (λ r. reaches l (earlier_end l a b) r) starts) ∙ h in
      let behind : (is_le (l.order (l.start_place a) q) && is_le (l.order (l.start_place b) q)) ≡ true = sym (from_later a b q) ∙ le_Equal (itself p.total q) in
      let before : (is_lt (l.order q (l.end_place a)) && is_lt (l.order q (l.end_place b))) ≡ true = sym (up_to_earlier a b q) ∙ apart in
      both_true
      (ap is_lt (le_lt p.total (second_so _ _ behind) (lt_is _ (first_so _ _ before))))
      (ap is_lt (le_lt p.total (first_so _ _ behind) (lt_is _ (second_so _ _ before))))

  both_hold : (a b : X) (x : K) → (k.holds a x && k.holds b x) ≡ ((is_le (l.order (l.start_place a) (at x)) && is_lt (l.order (at x) (l.end_place a))) && (is_le (l.order (l.start_place b) (at x)) && is_lt (l.order (at x) (l.end_place b))))
  both_hold a b x = ap (λ c. c && k.holds b x) (p.holds a x) ∙ ap (λ c. (is_le (l.order (l.start_place a) (at x)) && is_lt (l.order (at x) (l.end_place a))) && c) (p.holds b x)

  -- the part has the keys that both have
  part_holds : (a b : X) (x : K) → k.holds (l.between (later_start l a b) (earlier_end l a b)) x ≡ (k.holds a x && k.holds b x)
  part_holds a b x =
      p.holds (l.between (later_start l a b) (earlier_end l a b)) x
      ∙ ap (λ q. is_le (l.order q (at x)) && is_lt (l.order (at x) (l.end_place (l.between (later_start l a b) (earlier_end l a b))))) (p.between_start_place (later_start l a b) (earlier_end l a b))
      ∙ ap (λ q. is_le (l.order (l.start_place (later_start l a b)) (at x)) && is_lt (l.order (at x) q)) (p.between_end_place (later_start l a b) (earlier_end l a b))
      ∙ ap (λ c. c && is_lt (l.order (at x) (l.end_place (earlier_end l a b)))) (from_later a b (at x))
      ∙ ap (λ c. (is_le (l.order (l.start_place a) (at x)) && is_le (l.order (l.start_place b) (at x))) && c) (up_to_earlier a b (at x))
      ∙ regrouped (is_le (l.order (l.start_place a) (at x))) (is_le (l.order (l.start_place b) (at x))) (is_lt (l.order (at x) (l.end_place a))) (is_lt (l.order (at x) (l.end_place b)))
      ∙ sym (both_hold a b x)

  -- ranges that do not reach one another have no key in common
  none_held : (a b : X) (x : K) → reaches l a b ≡ false → (k.holds a x && k.holds b x) ≡ false
  none_held a b x apart = both_hold a b x ∙ table (is_le (l.order (l.start_place a) (at x))) (is_lt (l.order (at x) (l.end_place a))) (is_le (l.order (l.start_place b) (at x))) (is_lt (l.order (at x) (l.end_place b))) late
    where
      late : is_lt (l.order (at x) (l.end_place a)) ≡ true → is_le (l.order (l.start_place b) (at x)) ≡ false
      late h = lt_not_le p.total (lt_le p.total (lt_is _ h) (unreached p a b apart))

      table : (la ha lb hb : Bool) → (ha ≡ true → lb ≡ false) → ((la && ha) && (lb && hb)) ≡ false
      table la ha lb hb h = grind (arith, nat_tests)

  with_part : (a b : X) (rest : List X) (x : K) → covers k (with_common l a b rest) x ≡ ((k.holds a x && k.holds b x) || covers k rest x)
  with_part a b rest x = by (reaches l a b) refl (reaches l b a) refl
    where
      part : X
      part = l.between (later_start l a b) (earlier_end l a b)

      none : (k.holds a x && k.holds b x) ≡ false → covers k rest x ≡ ((k.holds a x && k.holds b x) || covers k rest x)
      none h = sym (ap (λ c. c || covers k rest x) h)

      by : (c : Bool) → reaches l a b ≡ c → (d : Bool) → reaches l b a ≡ d → covers k (cond (c && d) (part ∷ rest) rest) x ≡ ((k.holds a x && k.holds b x) || covers k rest x)
      by true e true f = covers-cons k part rest x ∙ ap (λ c. c || covers k rest x) (part_holds a b x)
      by true e false f = none (and_comm (k.holds a x) (k.holds b x) ∙ none_held b a x f)
      by false e d f = none (none_held a b x e)

  -- ---- the points

  -- no later range of a canonical list holds what is before the end of the first
  later_uncovered : (a : X) (rest : List X) (x : K) → Canonical (a ∷ rest) → l.order (at x) (l.end_place a) ≡ Less → covers k rest x ≡ false
  later_uncovered a [] x can early = refl
  later_uncovered a (b ∷ rest) x can early =
      let before_next = lt_le p.total early (p.before a b can.1.0) in
      let out : k.holds b x ≡ false = p.holds b x ∙ ap (λ c. c && is_lt (l.order (at x) (l.end_place b))) (lt_not_le p.total before_next) in
      covers-cons k b rest x ∙ ap (λ c. c || covers k rest x) out ∙ later_uncovered b rest x can.2 (lt_lt p.total before_next (p.non_empty b can.2.0.non_empty))

  held_below : (a : X) (x : K) → k.holds a x ≡ true → l.order (at x) (l.end_place a) ≡ Less
  held_below a x h = lt_is _ (second_so (is_le (l.order (l.start_place a) (at x))) (is_lt (l.order (at x) (l.end_place a))) (sym (p.holds a x) ∙ h))

  common_points_from : (a : X) (left : List X) → ((right : List X) (x : K) → Canonical right → covers k (intersection_items l left right) x ≡ (covers k left x && covers k right x))
      → (right : List X) (x : K) → Canonical (a ∷ left) → Canonical right → covers k (intersection_items l (a ∷ left) right) x ≡ (covers k (a ∷ left) x && covers k right x)
  common_points_from a left on [] x can-a can-b = sym (and-false (covers k (a ∷ left) x))
  common_points_from a left on (b ∷ right) x can-a can-b =
      with_part a b _ x
      ∙ decided (λ rest. ((k.holds a x && k.holds b x) || covers k rest x) ≡ ((k.holds a x || covers k left x) && (k.holds b x || covers k right x))) (is_lt (l.order (l.end_place a) (l.end_place b)))
      (λ e.
      ap (λ c. (k.holds a x && k.holds b x) || c) (on (b ∷ right) x can-b ∙ ap (λ c. covers k left x && c) (covers-cons k b right x))
      ∙ common_left (k.holds a x) (covers k left x) (k.holds b x) (covers k right x) (λ h. later_uncovered b right x can-b (lt_lt p.total (held_below a x h) (lt_is _ e))))
      (λ e.
      ap (λ c. (k.holds a x && k.holds b x) || c) (common_points_from a left on right x can-a can-b.2 ∙ ap (λ c. c && covers k right x) (covers-cons k a left x))
      ∙ common_right (k.holds a x) (covers k left x) (k.holds b x) (covers k right x) (λ h. later_uncovered a left x can-a (lt_le p.total (held_below b x h) (not_lt p.total (l.end_place a) (l.end_place b) e))))
      ∙ sym (ap (λ c. c && covers k (b ∷ right) x) (covers-cons k a left x) ∙ ap (λ c. (k.holds a x || covers k left x) && c) (covers-cons k b right x))

  -- the items have the points of both sides
  pub common_points : (left right : List X) (x : K) → Canonical left → Canonical right → covers k (intersection_items l left right) x ≡ (covers k left x && covers k right x)
  common_points [] right x can-a can-b = refl
  common_points (a ∷ left) right x can-a can-b = common_points_from a left (λ cs y can. common_points left cs y can-a.2 can) right x can-a can-b

  -- ---- the order of the items

  abbrev AllFrom : P → List X → Type 0
  AllFrom floor [] = ⊤
  AllFrom floor (r ∷ rest) = le floor (l.start_place r) × AllFrom floor rest

  abbrev StartsFrom : P → List X → Type 0
  StartsFrom floor [] = ⊤
  StartsFrom floor (r ∷ _) = le floor (l.start_place r)

  all_from : (floor : P) (a : X) (rest : List X) → Canonical (a ∷ rest) → le floor (l.start_place a) → AllFrom floor (a ∷ rest)
  all_from floor a [] can h = (h, tt)
  all_from floor a (b ∷ rest) can h =
      (h, all_from floor b rest can.2 (le_through p.total _ _ _ h (le_Less (lt_le p.total (p.non_empty a can.0.non_empty) (p.before a b can.1.0)))))

  -- no part starts before both of its ranges
  part_from : (floor : P) (a b : X) (rest : List X) → le floor (l.start_place (later_start l a b)) → StartsFrom floor rest → StartsFrom floor (with_common l a b rest)
  part_from floor a b rest h g = decided (StartsFrom floor) (reaches l a b && reaches l b a)
      (λ _. ap (λ q. is_le (l.order floor q)) (p.between_start_place (later_start l a b) (earlier_end l a b)) ∙ h)
      (λ _. g)

  later_from_first : (floor : P) (a b : X) → le floor (l.start_place a) → le floor (l.start_place (later_start l a b))
  later_from_first floor a b h = decided (λ c. le floor (l.start_place c)) (is_lt (l.order (l.start_place a) (l.start_place b)))
      (λ e. le_through p.total _ _ _ h (le_Less (lt_is _ e)))
      (λ _. h)

  later_from_second : (floor : P) (a b : X) → le floor (l.start_place b) → le floor (l.start_place (later_start l a b))
  later_from_second floor a b h = decided (λ c. le floor (l.start_place c)) (is_lt (l.order (l.start_place a) (l.start_place b)))
      (λ _. h)
      (λ e. le_through p.total _ _ _ h (not_lt p.total (l.start_place a) (l.start_place b) e))

  starts_left_from : (floor : P) (a : X) (left : List X) → ((right : List X) → StartsFrom floor (intersection_items l left right)) → le floor (l.start_place a)
      → (right : List X) → StartsFrom floor (intersection_items l (a ∷ left) right)
  starts_left_from floor a left on h [] = tt
  starts_left_from floor a left on h (b ∷ right) = part_from floor a b _ (later_from_first floor a b h) (decided (StartsFrom floor) (is_lt (l.order (l.end_place a) (l.end_place b)))
      (λ _. on (b ∷ right))
      (λ _. starts_left_from floor a left on h right))

  starts_left : (floor : P) (left : List X) → AllFrom floor left → (right : List X) → StartsFrom floor (intersection_items l left right)
  starts_left floor [] h right = tt
  starts_left floor (a ∷ left) h right = starts_left_from floor a left (starts_left floor left h.1) h.0 right

  starts_right_from : (floor : P) (a : X) (left : List X) → ((right : List X) → AllFrom floor right → StartsFrom floor (intersection_items l left right))
      → (right : List X) → AllFrom floor right → StartsFrom floor (intersection_items l (a ∷ left) right)
  starts_right_from floor a left on [] h = tt
  starts_right_from floor a left on (b ∷ right) h = part_from floor a b _ (later_from_second floor a b h.0) (decided (StartsFrom floor) (is_lt (l.order (l.end_place a) (l.end_place b)))
      (λ _. on (b ∷ right) h)
      (λ _. starts_right_from floor a left on right h.1))

  starts_right : (floor : P) (left right : List X) → AllFrom floor right → StartsFrom floor (intersection_items l left right)
  starts_right floor [] right h = tt
  starts_right floor (a ∷ left) right h = starts_right_from floor a left (starts_right floor left) right h

  -- ---- the items are canonical

  -- what ends no later than a range of a canonical list is followed by what starts no earlier than the next one
  followed : (item a b : X) (right items : List X) → Canonical (a ∷ b ∷ right) → le (l.end_place item) (l.end_place a) → StartsFrom (l.start_place b) items → IsFollowedBy k (unit_eq k) (item, tt) (with_unit k items)
  followed item a b right [] can ends starts = tt
  followed item a b right (c ∷ items) can ends starts = (
    p.before_from item c (le_through p.total _ _ _ (le_through p.total _ _ _ ends (p.before a b can.1.0)) starts),
    λ touching. can.1.1 (p.touches_within item c a b can.1.0 ends starts touching),
  )

  -- a part may be stored
  part_stored : (a b s e : X) → reaches l a b ≡ true → reaches l b a ≡ true → IsStorable k a → IsStorable k b
      → IsStorable k s → IsStorable k e → l.order (l.start_place s) (l.end_place e) ≡ Less → IsStorable k (l.between s e)
  part_stored a b s e ab ba stored-a stored-b stored-s stored-e h = record {
    start_is_key = subst k.is_key (sym (p.between_start s e)) stored-s.start_is_key;
    end_is_key = subst k.is_key (sym (p.between_end s e)) stored-e.end_is_key;
    non_empty = p.between_non_empty s e h;
  }

  canonical_part : (a b : X) (left right : List X) → Canonical (a ∷ left) → Canonical (b ∷ right)
      → (with_left : Canonical (intersection_items l left (b ∷ right))) → (with_right : Canonical (intersection_items l (a ∷ left) right))
      → Canonical (intersection_items l (a ∷ left) (b ∷ right))
  canonical_part a b left right can-a can-b with_left with_right = by (reaches l a b) refl (reaches l b a) refl (is_lt (l.order (l.end_place a) (l.end_place b))) refl
    where
      start : X
      start = later_start l a b

      starts_first : (e : X) → l.order (l.start_place a) (l.end_place e) ≡ Less → l.order (l.start_place b) (l.end_place e) ≡ Less → l.order (l.start_place start) (l.end_place e) ≡ Less
      starts_first e h g = chosen (λ s. l.order (l.start_place s) (l.end_place e) ≡ Less) (is_lt (l.order (l.start_place a) (l.start_place b))) b a g h

      start_stored : IsStorable k start
      start_stored = chosen (IsStorable k) (is_lt (l.order (l.start_place a) (l.start_place b))) b a can-b.0 can-a.0

      itself_le : (e : X) → le (l.end_place (l.between start e)) (l.end_place e)
      itself_le e = ap (λ q. is_le (l.order q (l.end_place e))) (p.between_end_place start e) ∙ le_Equal (itself p.total (l.end_place e))

      after_left : (rest : List X) → Canonical (a ∷ rest) → IsFollowedBy k (unit_eq k) (l.between start a, tt) (with_unit k (intersection_items l rest (b ∷ right)))
      after_left [] can = tt
      after_left (c ∷ rest) can = followed (l.between start a) a c rest (intersection_items l (c ∷ rest) (b ∷ right)) can (itself_le a)
          (starts_left (l.start_place c) (c ∷ rest) (all_from (l.start_place c) c rest can.2 (le_Equal (itself p.total (l.start_place c)))) (b ∷ right))

      after_right : (rest : List X) → Canonical (b ∷ rest) → IsFollowedBy k (unit_eq k) (l.between start b, tt) (with_unit k (intersection_items l (a ∷ left) rest))
      after_right [] can = tt
      after_right (c ∷ rest) can = followed (l.between start b) b c rest (intersection_items l (a ∷ left) (c ∷ rest)) can (itself_le b)
          (starts_right (l.start_place c) (a ∷ left) (c ∷ rest) (all_from (l.start_place c) c rest can.2 (le_Equal (itself p.total (l.start_place c)))))

      by : (c : Bool) → reaches l a b ≡ c → (d : Bool) → reaches l b a ≡ d → (f : Bool) → is_lt (l.order (l.end_place a) (l.end_place b)) ≡ f
          → Canonical (cond (c && d)
          (l.between start (cond f a b) ∷ cond f (intersection_items l left (b ∷ right)) (intersection_items l (a ∷ left) right))
          (cond f (intersection_items l left (b ∷ right)) (intersection_items l (a ∷ left) right)))
      by true e true g true h =
          (part_stored a b start a e g can-a.0 can-b.0 start_stored can-a.0 (starts_first a (p.non_empty a can-a.0.non_empty) (reached p a b e)), after_left left can-a, with_left)
      by true e true g false h =
          (part_stored a b start b e g can-a.0 can-b.0 start_stored can-b.0 (starts_first b (reached p b a g) (p.non_empty b can-b.0.non_empty)), after_right right can-b, with_right)
      by true e false g true h = with_left
      by true e false g false h = with_right
      by false e d g true h = with_left
      by false e d g false h = with_right

  common_canonical_from : (a : X) (left : List X) → ((right : List X) → Canonical right → Canonical (intersection_items l left right))
      → (right : List X) → Canonical (a ∷ left) → Canonical right → Canonical (intersection_items l (a ∷ left) right)
  common_canonical_from a left on [] can-a can-b = tt
  common_canonical_from a left on (b ∷ right) can-a can-b = canonical_part a b left right can-a can-b (on (b ∷ right) can-b) (common_canonical_from a left on right can-a can-b.2)

  pub common_canonical : (left right : List X) → Canonical left → Canonical right → Canonical (intersection_items l left right)
  common_canonical [] right can-a can-b = tt
  common_canonical (a ∷ left) right can-a can-b = common_canonical_from a left (λ bs can. common_canonical left bs can-a.2 can) right can-a can-b

  -- ---- the theorem

  -- the items of an intersection are the canonical list of the points of both sides
  pub intersection_common : (left right : List X) → Canonical left → Canonical right → AreCommon k left right (intersection_items l left right)
  intersection_common left right can-a can-b = record {
    canonical = common_canonical left right can-a can-b;
    points = λ x key. common_points left right x can-a can-b;
  }

  -- the same of what an engine was made of
  pub intersection_taken : (left right ps qs items : List X) → left ≡ ps → right ≡ qs → items ≡ intersection_items l left right → Canonical ps → Canonical qs → AreCommon k ps qs items
  intersection_taken left right ps qs items p-is q-is is can-a can-b = subst (AreCommon k ps qs) (sym (is ∙ ap₂ (intersection_items l) p-is q-is)) (intersection_common ps qs can-a can-b)
