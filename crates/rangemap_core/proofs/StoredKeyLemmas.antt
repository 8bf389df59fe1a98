-- What is known of single keys: which a stored range has, what it tells of them that ranges overlap, and how far a value goes.
use Rattle.std.proofs.Common.{◌≡◌, ◌≢◌, Bool, true, false, ◌&&◌, ◌||◌, cond, List, [], ◌∷◌, Option, Some, None, option_map, refl, sym, ap, subst, ◌∙◌, true≢false, Ordering, Less, Equal, Greater, is_lt, is_le}
use Rattle.std.specs.Option.{option_eq}
use Rattle.std.specs.Cmp.{IsTotalOrder, first_so, second_so}
use Rattle.std.proofs.lemmas.Bool.{and_from}
use Rattle.rangemap_core.specs.Ranges.{RangeKind, IsCanonical, IsStorable, covering, covers, overlapped, value_at}
use Rattle.rangemap_core.specs.Sets.{IsCanonicalSet, IsEach, ranges}
use Rattle.rangemap_core.specs.engine.Endpoints.{IsPlaced, EndpointOf, asked}
use Rattle.rangemap_core.specs.engine.Places.{place_cmp}
use Rattle.rangemap_core.specs.laws.Orders.{eq_eq, eq_lt, eq_turn, itself, le_Equal, le_Less, le_lt, lt_eq, lt_le, lt_lt, lt_not_le, turn}
use Rattle.rangemap_core.specs.engine.PlacedKinds.{place_total}
use Rattle.rangemap_core.specs.engine.EndpointKinds.{lt_is}
use Rattle.rangemap_core.proofs.GapLemmas.{covers-cons}

module _ {K X : Type 0} {k : RangeKind K X} {end_place : X → Option K} {part : EndpointOf X → EndpointOf X → X} (p : IsPlaced k end_place part) where
  o : IsTotalOrder (place_cmp k.cmp)
  o = place_total p.total

  -- a key of a range lies from its start up to its end place, and such a key is one of it
  pub from_start : (r : X) (x : K) → IsStorable k r → k.is_key x → k.holds r x ≡ true → is_le (k.cmp (k.start r) x) ≡ true
  from_start r x stored key h = first_so (is_le (k.cmp (k.start r) x)) (is_lt (place_cmp k.cmp (Some x) (end_place r))) (sym (p.holds r x (asked k r stored) key) ∙ h)

  pub below_end_place : (r : X) (x : K) → IsStorable k r → k.is_key x → k.holds r x ≡ true → place_cmp k.cmp (Some x) (end_place r) ≡ Less
  below_end_place r x stored key h = lt_is (place_cmp k.cmp (Some x) (end_place r)) (second_so (is_le (k.cmp (k.start r) x)) (is_lt (place_cmp k.cmp (Some x) (end_place r))) (sym (p.holds r x (asked k r stored) key) ∙ h))

  pub holds_between : (r : X) (x : K) → IsStorable k r → k.is_key x → is_le (k.cmp (k.start r) x) ≡ true → place_cmp k.cmp (Some x) (end_place r) ≡ Less → k.holds r x ≡ true
  holds_between r x stored key from to = p.holds r x (asked k r stored) key ∙ and_from (is_le (k.cmp (k.start r) x)) (is_lt (place_cmp k.cmp (Some x) (end_place r))) from (ap is_lt to)

  -- its start is a key of it
  pub holds_start : (r : X) → IsStorable k r → k.holds r (k.start r) ≡ true
  holds_start r stored = holds_between r (k.start r) stored stored.start_is_key (le_Equal (itself p.total (k.start r))) (p.non_empty r stored)

  false_by : (b : Bool) → (b ≡ true → ⊥) → b ≡ false
  false_by true h = absurd (h refl)
  false_by false h = refl

  not_below_start : (r : X) (x : K) → IsStorable k r → k.is_key x → k.cmp x (k.start r) ≡ Less → k.holds r x ≡ false
  not_below_start r x stored key early = false_by (k.holds r x) (λ h. true≢false (sym (from_start r x stored key h) ∙ lt_not_le p.total {a = x} {b = k.start r} early))

  not_from_end_place : (r : X) (x : K) → IsStorable k r → k.is_key x → is_le (place_cmp k.cmp (end_place r) (Some x)) ≡ true → k.holds r x ≡ false
  not_from_end_place r x stored key up = false_by (k.holds r x) (λ h. true≢false (sym up ∙ lt_not_le o {a = Some x} {b = end_place r} (below_end_place r x stored key h)))

  -- of two neighbours in a set the first ends before the second starts
  pub ends_before : (r s : X) (rest : List X) → IsCanonicalSet k (r ∷ s ∷ rest) → place_cmp k.cmp (end_place r) (Some (k.start s)) ≡ Less
  ends_before r s rest can = go (place_cmp k.cmp (end_place r) (Some (k.start s))) refl (p.before r s can.0 can.2.0 can.1.0)
    where
      go : (c : Ordering) → place_cmp k.cmp (end_place r) (Some (k.start s)) ≡ c → is_le (place_cmp k.cmp (end_place r) (Some (k.start s))) ≡ true → place_cmp k.cmp (end_place r) (Some (k.start s)) ≡ Less
      go Less e l = e
      go Equal e l = absurd (true≢false (can.1.1 (p.touches_from r s can.0 can.2.0 e)))
      go Greater e l = absurd (true≢false (sym l ∙ ap is_le e))

  -- ---- what it tells of keys that ranges overlap

  -- ranges with a common key meet
  pub meets_where_shared : (q r : X) (x : K) → IsStorable k q → IsStorable k r → k.is_key x → k.holds q x ≡ true → k.holds r x ≡ true → k.meets q r ≡ true
  meets_where_shared q r x sq sr key h j =
      p.meets q r (asked k q sq) sr
      ∙ and_from (is_lt (place_cmp k.cmp (Some (k.start q)) (end_place r))) (is_lt (place_cmp k.cmp (Some (k.start r)) (end_place q)))
      (ap is_lt (le_lt o {a = Some (k.start q)} {b = Some x} {c = end_place r} (from_start q x sq key h) (below_end_place r x sr key j)))
      (ap is_lt (le_lt o {a = Some (k.start r)} {b = Some x} {c = end_place q} (from_start r x sr key j) (below_end_place q x sq key h)))

  -- ranges that meet have a common key, the later of their starts
  pub shared_where_meets : (q r : X) → IsStorable k q → IsStorable k r → k.meets q r ≡ true → (x : K) × k.is_key x × (k.holds q x ≡ true) × (k.holds r x ≡ true)
  shared_where_meets q r sq sr h = by (k.cmp (k.start q) (k.start r)) refl
    where
      both : (is_lt (place_cmp k.cmp (Some (k.start q)) (end_place r)) && is_lt (place_cmp k.cmp (Some (k.start r)) (end_place q))) ≡ true
      both = sym (p.meets q r (asked k q sq) sr) ∙ h

      first : place_cmp k.cmp (Some (k.start q)) (end_place r) ≡ Less
      first = lt_is (place_cmp k.cmp (Some (k.start q)) (end_place r)) (first_so (is_lt (place_cmp k.cmp (Some (k.start q)) (end_place r))) (is_lt (place_cmp k.cmp (Some (k.start r)) (end_place q))) both)

      second : place_cmp k.cmp (Some (k.start r)) (end_place q) ≡ Less
      second = lt_is (place_cmp k.cmp (Some (k.start r)) (end_place q)) (second_so (is_lt (place_cmp k.cmp (Some (k.start q)) (end_place r))) (is_lt (place_cmp k.cmp (Some (k.start r)) (end_place q))) both)

      by : (c : Ordering) → k.cmp (k.start q) (k.start r) ≡ c → (x : K) × k.is_key x × (k.holds q x ≡ true) × (k.holds r x ≡ true)
      by Less e = (k.start r, sr.start_is_key, holds_between q (k.start r) sq sr.start_is_key (le_Less e) second, holds_start r sr)
      by Equal e = (k.start r, sr.start_is_key, holds_between q (k.start r) sq sr.start_is_key (le_Equal e) second, holds_start r sr)
      by Greater e = (k.start q, sq.start_is_key, holds_start q sq, holds_between r (k.start q) sr sq.start_is_key (le_Less (turn p.total e)) first)

  module _ {V : Type 0} (eq : V → V → Bool) (q : X) (stored : IsStorable k q) where
    -- where no stored range overlaps a range, none of its keys is covered
    pub free_where_none_meets : (list : List (X × V)) → IsCanonical k eq list → overlapped k list q ≡ [] → IsEach k false (k.holds q) (ranges list)
    free_where_none_meets [] can none x key h = refl
    free_where_none_meets (a ∷ list) can none x key h = go (k.meets q a.0) refl none (λ rest. free_where_none_meets list can.2 rest x key h)
      where
        here : (b : Bool) → k.holds a.0 x ≡ b → k.meets q a.0 ≡ false → covers k (ranges list) x ≡ false → (b || covers k (ranges list) x) ≡ false
        here true e apart rest = absurd (true≢false (sym (meets_where_shared q a.0 x stored can.0 key h e) ∙ apart))
        here false e apart rest = rest

        go : (b : Bool) → k.meets q a.0 ≡ b → cond b (a ∷ overlapped k list q) (overlapped k list q) ≡ [] → (overlapped k list q ≡ [] → covers k (ranges list) x ≡ false) → covers k (ranges (a ∷ list)) x ≡ false
        go true e w rest = absurd (cc)
        go false e w rest = covers-cons k a.0 (ranges list) x ∙ here (k.holds a.0 x) refl e (rest w)

    -- where one overlaps it, some key of it is
    pub covered_where_one_meets : (list : List (X × V)) → IsCanonical k eq list → overlapped k list q ≢ [] → (x : K) × k.is_key x × (k.holds q x ≡ true) × (covers k (ranges list) x ≡ true)
    covered_where_one_meets [] can some = absurd (some refl)
    covered_where_one_meets (a ∷ list) can some = go (k.meets q a.0) refl some (covered_where_one_meets list can.2)
      where
        or_left : (a b : Bool) → a ≡ true → (a || b) ≡ true
        or_left true b h = refl
        or_left false b h = absurd (true≢false (sym h))

        or_right : (a b : Bool) → b ≡ true → (a || b) ≡ true
        or_right true b h = refl
        or_right false b h = h

        go : (b : Bool) → k.meets q a.0 ≡ b → cond b (a ∷ overlapped k list q) (overlapped k list q) ≢ []
            → (overlapped k list q ≢ [] → (x : K) × k.is_key x × (k.holds q x ≡ true) × (covers k (ranges list) x ≡ true))
            → (x : K) × k.is_key x × (k.holds q x ≡ true) × (covers k (ranges (a ∷ list)) x ≡ true)
        go true e s rest = let x = shared_where_meets q a.0 stored can.0 e in (x.0, x.1, x.2, covers-cons k a.0 (ranges list) x.0 ∙ or_left (k.holds a.0 x.0) (covers k (ranges list) x.0) x.3)
        go false e s rest = let x = rest s in (x.0, x.1, x.2, covers-cons k a.0 (ranges list) x.0 ∙ or_right (k.holds a.0 x.0) (covers k (ranges list) x.0) x.3)

    -- where none of them is, none overlaps it
    pub none_meets_where_free : (list : List (X × V)) → IsCanonical k eq list → IsEach k false (k.holds q) (ranges list) → overlapped k list q ≡ []
    none_meets_where_free list can free = none_by (overlapped k list q) (λ some. let x = covered_where_one_meets list can some in true≢false (sym x.3 ∙ free x.0 x.1 x.2))
      where
        none_by : (xs : List (X × V)) → (xs ≢ [] → ⊥) → xs ≡ []
        none_by [] h = refl
        none_by (x ∷ xs) h = absurd (h (λ e. cc))

  -- ---- a stored range goes as far as its value does

  module _ {V : Type 0} (eq : V → V → Bool) where
    -- nothing is stored before the first range
    pub none_before : (a : X × V) (list : List (X × V)) (x : K) → IsCanonical k eq (a ∷ list) → k.is_key x → k.cmp x (k.start a.0) ≡ Less → covering k (a ∷ list) x ≡ None
    none_before a [] x can key early = ap (λ b. cond b (Some a) None) (not_below_start a.0 x can.0 key early)
    none_before a (b ∷ list) x can key early =
        ap (λ t. cond t (Some a) (covering k (b ∷ list) x)) (not_below_start a.0 x can.0 key early)
        ∙ none_before b list x can.2 key
        (lt_le o {a = Some x} {b = end_place a.0} {c = Some (k.start b.0)} (lt_lt o {a = Some x} {b = Some (k.start a.0)} {c = end_place a.0} early (p.non_empty a.0 can.0)) (p.before a.0 b.0 can.0 can.2.0 can.1.0))

    -- nor is anything of the rest before the end of the first
    rest_behind : (a : X × V) (list : List (X × V)) (x : K) → IsCanonical k eq (a ∷ list) → k.is_key x → place_cmp k.cmp (Some x) (end_place a.0) ≡ Less → covering k list x ≡ None
    rest_behind a [] x can key within = refl
    rest_behind a (b ∷ list) x can key within = none_before b list x can.2 key (lt_le o {a = Some x} {b = end_place a.0} {c = Some (k.start b.0)} within (p.before a.0 b.0 can.0 can.2.0 can.1.0))

    -- the range that has a key is a stored one, and has it
    pub covering_holds : (list : List (X × V)) (a : X × V) (x : K) → IsCanonical k eq list → covering k list x ≡ Some a → IsStorable k a.0 × (k.holds a.0 x ≡ true)
    covering_holds [] a x can h = absurd (cc)
    covering_holds (b ∷ list) a x can h = go (k.holds b.0 x) refl h (covering_holds list a x can.2)
      where
        some_is : (u v : X × V) → Some u ≡ Some v → u ≡ v
        some_is u v e = cc

        go : (t : Bool) → k.holds b.0 x ≡ t → cond t (Some b) (covering k list x) ≡ Some a → (covering k list x ≡ Some a → IsStorable k a.0 × (k.holds a.0 x ≡ true)) → IsStorable k a.0 × (k.holds a.0 x ≡ true)
        go true e g rest = subst (λ (c : X × V). IsStorable k c.0 × (k.holds c.0 x ≡ true)) (some_is b a g) (can.0, e)
        go false e g rest = rest g

    -- it is the one that has any of its keys
    pub covering_same : (list : List (X × V)) (a : X × V) (x y : K) → IsCanonical k eq list → k.is_key y → covering k list x ≡ Some a → k.holds a.0 y ≡ true → covering k list y ≡ Some a
    covering_same [] a x y can key h holds = absurd (cc)
    covering_same (b ∷ list) a x y can key h holds = go (k.holds b.0 x) refl h (λ g. covering_same list a x y can.2 key g holds)
      where
        some_is : (u v : X × V) → Some u ≡ Some v → u ≡ v
        some_is u v e = cc

        not_both : {c : Option (X × V)} → c ≡ None → c ≡ Some a → ⊥
        not_both n s = cc

        here : (t : Bool) → k.holds b.0 y ≡ t → b ≡ a → cond t (Some b) (covering k list y) ≡ Some a
        here true e same = ap Some same
        here false e same = absurd (true≢false (sym (subst (λ (c : X × V). k.holds c.0 y ≡ true) (sym same) holds) ∙ e))

        later : (t : Bool) → k.holds b.0 y ≡ t → covering k list y ≡ Some a → cond t (Some b) (covering k list y) ≡ Some a
        later true e rest = absurd (not_both (rest_behind b list y can key (below_end_place b.0 y can.0 key e)) rest)
        later false e rest = rest

        go : (t : Bool) → k.holds b.0 x ≡ t → cond t (Some b) (covering k list x) ≡ Some a → (covering k list x ≡ Some a → covering k list y ≡ Some a) → covering k (b ∷ list) y ≡ Some a
        go true e g rest = here (k.holds b.0 y) refl (some_is b a g)
        go false e g rest = later (k.holds b.0 y) refl (rest g)

    module _ (symm : (v w : V) → eq v w ≡ eq w v) where
      behind_first : (a : X × V) (list : List (X × V)) (y : K) → IsCanonical k eq (a ∷ list) → k.is_key y → place_cmp k.cmp (Some y) (end_place a.0) ≡ Equal → option_eq eq (value_at k list y) (Some a.1) ≡ false
      behind_first a [] y can key tied = refl
      behind_first a (b ∷ list) y can key tied = by (place_cmp k.cmp (end_place a.0) (Some (k.start b.0))) refl (p.before a.0 b.0 can.0 can.2.0 can.1.0)
        where
          by : (c : Ordering) → place_cmp k.cmp (end_place a.0) (Some (k.start b.0)) ≡ c → is_le (place_cmp k.cmp (end_place a.0) (Some (k.start b.0))) ≡ true → option_eq eq (value_at k (b ∷ list) y) (Some a.1) ≡ false
          by Less e le = ap (λ c. option_eq eq (option_map (λ (q : X × V). q.1) c) (Some a.1)) (none_before b list y can.2 key (eq_lt o {a = Some y} {b = end_place a.0} {c = Some (k.start b.0)} tied e))
          by Equal e le =
              let at : k.cmp y (k.start b.0) ≡ Equal = eq_eq o {a = Some y} {b = end_place a.0} {c = Some (k.start b.0)} tied e in
              let here = holds_between b.0 y can.2.0 key (le_Equal (eq_turn p.total at)) (eq_lt o {a = Some y} {b = Some (k.start b.0)} {c = end_place b.0} at (p.non_empty b.0 can.2.0)) in
              ap (λ t. option_eq eq (option_map (λ (q : X × V). q.1) (cond t (Some b) (covering k list y))) (Some a.1)) here
              ∙ symm b.1 a.1 ∙ can.1.1 (p.touches_from a.0 b.0 can.0 can.2.0 e)
          by Greater e le = absurd (true≢false (sym le ∙ ap is_le e))

      -- a key right behind a stored range has not that range's value
      pub changes_behind : (list : List (X × V)) (a : X × V) (x y : K) → IsCanonical k eq list → k.is_key x → k.is_key y → covering k list x ≡ Some a → place_cmp k.cmp (Some y) (end_place a.0) ≡ Equal → option_eq eq (value_at k list y) (Some a.1) ≡ false
      changes_behind [] a x y can x-key y-key h tied = absurd (cc)
      changes_behind (b ∷ list) a x y can x-key y-key h tied = go (k.holds b.0 x) refl h (λ g. changes_behind list a x y can.2 x-key y-key g tied)
        where
          some_is : (u v : X × V) → Some u ≡ Some v → u ≡ v
          some_is u v e = cc

          not_none : {c : Option (X × V)} → c ≡ None → c ≡ Some a → ⊥
          not_none n s = cc

          past : k.holds b.0 y ≡ false → option_eq eq (value_at k list y) (Some a.1) ≡ false → option_eq eq (value_at k (b ∷ list) y) (Some a.1) ≡ false
          past e rest = ap (λ t. option_eq eq (option_map (λ (q : X × V). q.1) (cond t (Some b) (covering k list y))) (Some a.1)) e ∙ rest

          first : (c : X × V) → b ≡ c → place_cmp k.cmp (Some y) (end_place c.0) ≡ Equal → option_eq eq (value_at k (b ∷ list) y) (Some c.1) ≡ false
          first c same tie = subst (λ (d : X × V). place_cmp k.cmp (Some y) (end_place d.0) ≡ Equal → option_eq eq (value_at k (b ∷ list) y) (Some d.1) ≡ false) same
              (λ t. ap (λ u. option_eq eq (option_map (λ (q : X × V). q.1) (cond u (Some b) (covering k list y))) (Some b.1)) (not_from_end_place b.0 y can.0 y-key (le_Equal (eq_turn o {a = Some y} {b = end_place b.0} t)))
              ∙ behind_first b list y can y-key t) tie

          later : covering k list x ≡ Some a → (c : Ordering) → place_cmp k.cmp (Some x) (end_place b.0) ≡ c → is_le (place_cmp k.cmp (end_place b.0) (Some x)) ≡ true
          later g Less e = absurd (not_none (rest_behind b list x can x-key e) g)
          later g Equal e = le_Equal (eq_turn o {a = Some x} {b = end_place b.0} e)
          later g Greater e = le_Less (turn o {a = Some x} {b = end_place b.0} e)

          go : (t : Bool) → k.holds b.0 x ≡ t → cond t (Some b) (covering k list x) ≡ Some a → (covering k list x ≡ Some a → option_eq eq (value_at k list y) (Some a.1) ≡ false) → option_eq eq (value_at k (b ∷ list) y) (Some a.1) ≡ false
          go true e g rest = first a (some_is b a g) tied
          go false e g rest =
              let at = covering_holds list a x can.2 g in
              let up = lt_eq o {a = Some x} {b = end_place a.0} {c = Some y} (below_end_place a.0 x at.0 x-key at.1) (eq_turn o {a = Some y} {b = end_place a.0} tied) in
              past (not_from_end_place b.0 y can.0 y-key (le_Less (le_lt o {a = end_place b.0} {b = Some x} {c = Some y} (later g (place_cmp k.cmp (Some x) (end_place b.0)) refl) up))) (rest g)
