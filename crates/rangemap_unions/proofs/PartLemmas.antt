-- The parts of ranges that others leave free are the canonical list of the points that only the first have.
use Rattle.std.proofs.Common.{arith, ◌≡◌, Bool, true, false, not, ◌&&◌, ◌||◌, cond, List, [], ◌∷◌, Option, Some, None, refl, sym, ap, ◌∙◌, Ordering, Less, is_lt, is_le}
use Rattle.std.proofs.lemmas.Bool.Decides.{nat_tests}
use Rattle.std.proofs.Math.Bool.{and-true}
use Rattle.std.specs.Bool.{⊤}
use Rattle.std.specs.Cmp.{IsTotalOrder}
use Rattle.std.specs.Option.{IfSome}
use Rattle.rangemap_core.specs.Ranges.{RangeKind, IsStorable, covers, unit_eq, with_unit}
use Rattle.rangemap_core.specs.Sets.{AreWithout, IsCanonicalSet}
use Rattle.rangemap_core.specs.engine.Endpoints.{EndpointOf, AtStart, AtEnd, IsAskedAt, IsPlaced, asked, is_before, part_before, place_of}
use Rattle.rangemap_core.specs.engine.EndpointKinds.{lt_is}
use Rattle.rangemap_core.specs.engine.PlacedKinds.{place_total}
use Rattle.rangemap_core.specs.engine.Places.{place_cmp}
use Rattle.rangemap_core.specs.laws.Orders.{Less-Equal, eq_turn, itself, le_Equal, le_Less, le_lt, le_through, lt_le, not_lt}
use Rattle.rangemap_core.proofs.GapLemmas.{below, covered_later, covers-cons, holds_stored, in_part}
use Rattle.rangemap_core.proofs.StoredKeyLemmas.{ends_before}
use Rattle.rangemap_core.proofs.UnitValueLemmas.{ranges_with}
use Rattle.rangemap_core.specs.engine.PartStarts.{part_start}
use Rattle.rangemap_unions.specs.Parts.{difference_items, part_end, parts_from}

-- ---- tests of one key: f, s, e and t are whether it is below where a part may start, the start and the end of the next range, and the end of the first; c and l whether a later range of the one list, or of the other, covers it

-- the next range ends before the first does
inside_tests : (f s e t c l : Bool) → (f ≡ true → e ≡ true) → (s ≡ true → e ≡ true) → (e ≡ true → t ≡ true) → (c ≡ true → e ≡ false) → (l ≡ true → t ≡ false)
    → ((not f && (s && t)) || (((not e && t) || l) && not c)) ≡ (((not f && t) || l) && not ((not s && e) || c))
inside_tests f s e t c l o p q r h = grind (arith, nat_tests)

-- it does not
past_tests : (f s e t c l : Bool) → (s ≡ true → e ≡ true) → (t ≡ true → e ≡ true) → (c ≡ true → e ≡ false) → (l ≡ true → t ≡ false)
    → ((not f && (s && t)) || (l && not ((not s && e) || c))) ≡ (((not f && t) || l) && not ((not s && e) || c))
past_tests f s e t c l p q r h = grind (arith, nat_tests)

-- it ends before a part may start
early_tests : (f s e t c l : Bool) → (e ≡ true → f ≡ true) → (e ≡ true → t ≡ true) → (l ≡ true → t ≡ false)
    → (((not f && t) || l) && not c) ≡ (((not f && t) || l) && not ((not s && e) || c))
early_tests f s e t c l p q h = grind (arith, nat_tests)

and_where : (a b : Bool) → (a ≡ true → b ≡ true) → a ≡ (a && b)
and_where a b h = grind (arith, nat_tests)

where_and : (a b : Bool) → (b ≡ true → a ≡ true) → b ≡ (a && b)
where_and a b h = grind (arith, nat_tests)

module _ {K X : Type 0} {k : RangeKind K X} {end_place : X → Option K} {part : EndpointOf X → EndpointOf X → X} (p : IsPlaced k end_place part) where
  abbrev R : Option K → Option K → Ordering
  R = place_cmp k.cmp

  abbrev start_place : X → Option K
  start_place r = Some (k.start r)

  abbrev place : EndpointOf X → Option K
  place from = place_of k end_place from

  abbrev cut : EndpointOf X → EndpointOf X → List X → List X
  cut = part_before k end_place part

  -- the place where the next part of r may start
  abbrev from : Option X → X → Option K
  from passed r = place (part_start passed r)

  -- the place where it ends, where q comes next
  abbrev to : X → X → Option K
  to q r = place (part_end k end_place q r)

  o : IsTotalOrder R
  o = place_total p.total

  start_asked : (passed : Option X) (r : X) → IfSome passed (IsStorable k) → IsStorable k r → IsAskedAt k (part_start passed r)
  start_asked None r sp stored = asked k r stored
  start_asked (Some q) r sp stored = asked k q sp

  end_asked : (q r : X) → IsStorable k q → IsStorable k r → IsAskedAt k (part_end k end_place q r)
  end_asked q r sq sr = by (is_before k end_place (AtStart q) (AtEnd r))
    where
      by : (b : Bool) → IsAskedAt k (cond b (AtStart q) (AtEnd r))
      by true = asked k q sq
      by false = asked k r sr

  -- ---- points

  -- what a later range of a set covers is not before the end of an earlier
  pub behind_earlier : (r : X) (rs : List X) (x : K) → IsCanonicalSet k (r ∷ rs) → k.is_key x → covers k rs x ≡ true → is_lt (R (Some x) (end_place r)) ≡ false
  behind_earlier r rs x can key h = covered_later p (unit_eq k) (r, tt) (with_unit k rs) x can key (ap (λ ss. covers k ss x) (ranges_with k rs) ∙ h)

  -- a part ends where both the next range starts and the first ends
  to_below : (q r : X) (x : K) → is_lt (R (Some x) (to q r)) ≡ (is_lt (R (Some x) (start_place q)) && is_lt (R (Some x) (end_place r)))
  to_below q r x = by (is_before k end_place (AtStart q) (AtEnd r)) refl
    where
      by : (b : Bool) → is_before k end_place (AtStart q) (AtEnd r) ≡ b → is_lt (R (Some x) (place (cond b (AtStart q) (AtEnd r)))) ≡ (is_lt (R (Some x) (start_place q)) && is_lt (R (Some x) (end_place r)))
      by true e = and_where (is_lt (R (Some x) (start_place q))) (is_lt (R (Some x) (end_place r))) (λ l. below o (Some x) (start_place q) (end_place r) l (le_Less (lt_is _ e)))
      by false e = where_and (is_lt (R (Some x) (start_place q))) (is_lt (R (Some x) (end_place r))) (λ l. below o (Some x) (end_place r) (start_place q) l (not_lt o (start_place q) (end_place r) e))

  abbrev parts : (List X → List X) → X → Option X → List X → List X
  parts = parts_from k end_place part

  module _ (x : K) (key : k.is_key x) (on : List X → List X) (later : Bool) (on_points : (qs : List X) → IsCanonicalSet k qs → covers k (on qs) x ≡ (later && not (covers k qs x)))
      (r : X) (stored : IsStorable k r) (behind : later ≡ true → is_lt (R (Some x) (end_place r)) ≡ false) where
    -- the points of the parts, of which none was passed
    abbrev HasPoints : Option X → List X → List X → Type 0
    HasPoints passed qs found = covers k found x ≡ (((not (is_lt (R (Some x) (from passed r))) && is_lt (R (Some x) (end_place r))) || later) && not (covers k qs x))

    points_from : (passed : Option X) → IfSome passed (IsStorable k) → R (from passed r) (end_place r) ≡ Less → (qs : List X) → IsCanonicalSet k qs → HasPoints passed qs (parts on r passed qs)
    points_from passed sp near [] can =
        in_part p (part_start passed r) (AtEnd r) (start_asked passed r sp stored) (asked k r stored) (on []) x key
        ∙ ap (λ b. (not (is_lt (R (Some x) (from passed r))) && is_lt (R (Some x) (end_place r))) || b) (on_points [] tt ∙ and-true later)
        ∙ sym (and-true _)
    points_from passed sp near (q ∷ qs) can =
        by (is_before k end_place (part_start passed r) (AtEnd q)) refl (λ within. points_from (Some q) can.0 within qs can.2) (points_from passed sp near qs can.2)
        ∙ ap (λ b. ((not (is_lt (R (Some x) (from passed r))) && is_lt (R (Some x) (end_place r))) || later) && not b) here
      where
        here : ((not (is_lt (R (Some x) (start_place q))) && is_lt (R (Some x) (end_place q))) || covers k qs x) ≡ covers k (q ∷ qs) x
        here = ap (λ b. b || covers k qs x) (sym (holds_stored p q x can.0 key)) ∙ sym (covers-cons k q qs x)

        starts : is_lt (R (Some x) (start_place q)) ≡ true → is_lt (R (Some x) (end_place q)) ≡ true
        starts l = below o (Some x) (start_place q) (end_place q) l (le_Less (p.non_empty q can.0))

        go : (b : Bool) → is_before k end_place (AtEnd q) (AtEnd r) ≡ b → is_before k end_place (part_start passed r) (AtEnd q) ≡ true
            → (R (end_place q) (end_place r) ≡ Less → HasPoints (Some q) qs (parts on r (Some q) qs))
            → ((not (is_lt (R (Some x) (from passed r))) && (is_lt (R (Some x) (start_place q)) && is_lt (R (Some x) (end_place r)))) || covers k (cond b (parts on r (Some q) qs) (on (q ∷ qs))) x)
            ≡ (((not (is_lt (R (Some x) (from passed r))) && is_lt (R (Some x) (end_place r))) || later) && not ((not (is_lt (R (Some x) (start_place q))) && is_lt (R (Some x) (end_place q))) || covers k qs x))
        go true within reached behind_q =
            ap (λ b. (not (is_lt (R (Some x) (from passed r))) && (is_lt (R (Some x) (start_place q)) && is_lt (R (Some x) (end_place r)))) || b) (behind_q (lt_is _ within))
            ∙ inside_tests (is_lt (R (Some x) (from passed r))) (is_lt (R (Some x) (start_place q))) (is_lt (R (Some x) (end_place q))) (is_lt (R (Some x) (end_place r))) (covers k qs x) later
            (λ l. below o (Some x) (from passed r) (end_place q) l (le_Less (lt_is _ reached))) starts
            (λ l. below o (Some x) (end_place q) (end_place r) l (le_Less (lt_is _ within))) (behind_earlier q qs x can key) behind
        go false past reached behind_q =
            ap (λ b. (not (is_lt (R (Some x) (from passed r))) && (is_lt (R (Some x) (start_place q)) && is_lt (R (Some x) (end_place r)))) || b) (on_points (q ∷ qs) can ∙ ap (λ b. later && not b) (sym here))
            ∙ past_tests (is_lt (R (Some x) (from passed r))) (is_lt (R (Some x) (start_place q))) (is_lt (R (Some x) (end_place q))) (is_lt (R (Some x) (end_place r))) (covers k qs x) later starts
            (λ l. below o (Some x) (end_place r) (end_place q) l (not_lt o (end_place q) (end_place r) past)) (behind_earlier q qs x can key) behind

        by : (b : Bool) → is_before k end_place (part_start passed r) (AtEnd q) ≡ b
            → (R (end_place q) (end_place r) ≡ Less → HasPoints (Some q) qs (parts on r (Some q) qs)) → HasPoints passed qs (parts on r passed qs)
            → covers k (cond b (cut (part_start passed r) (part_end k end_place q r) (cond (is_before k end_place (AtEnd q) (AtEnd r)) (parts on r (Some q) qs) (on (q ∷ qs)))) (parts on r passed qs)) x
            ≡ (((not (is_lt (R (Some x) (from passed r))) && is_lt (R (Some x) (end_place r))) || later) && not ((not (is_lt (R (Some x) (start_place q))) && is_lt (R (Some x) (end_place q))) || covers k qs x))
        by true reached behind_q skipped =
            in_part p (part_start passed r) (part_end k end_place q r) (start_asked passed r sp stored) (end_asked q r can.0 stored)
            (cond (is_before k end_place (AtEnd q) (AtEnd r)) (parts on r (Some q) qs) (on (q ∷ qs))) x key
            ∙ ap (λ b. (not (is_lt (R (Some x) (from passed r))) && b) || covers k (cond (is_before k end_place (AtEnd q) (AtEnd r)) (parts on r (Some q) qs) (on (q ∷ qs))) x) (to_below q r x)
            ∙ go (is_before k end_place (AtEnd q) (AtEnd r)) refl reached behind_q
        by false early behind_q skipped =
            let soon = not_lt o (from passed r) (end_place q) early in
            skipped
            ∙ early_tests (is_lt (R (Some x) (from passed r))) (is_lt (R (Some x) (start_place q))) (is_lt (R (Some x) (end_place q))) (is_lt (R (Some x) (end_place r))) (covers k qs x) later
            (λ l. below o (Some x) (end_place q) (from passed r) l soon)
            (λ l. below o (Some x) (end_place q) (end_place r) l (le_through o (end_place q) (from passed r) (end_place r) soon (le_Less near))) behind

  difference_points : (x : K) → k.is_key x → (ps qs : List X) → IsCanonicalSet k ps → IsCanonicalSet k qs → covers k (difference_items k end_place part ps qs) x ≡ (covers k ps x && not (covers k qs x))
  difference_points x key [] qs can-p can-q = refl
  difference_points x key (r ∷ ps) qs can-p can-q =
      points_from x key (difference_items k end_place part ps) (covers k ps x) (λ rs can. difference_points x key ps rs can-p.2 can) r can-p.0 (behind_earlier r ps x can-p key) None tt (p.non_empty r can-p.0) qs can-q
      ∙ ap (λ b. b && not (covers k qs x)) (ap (λ b. b || covers k ps x) (sym (holds_stored p r x can-p.0 key)) ∙ sym (covers-cons k r ps x))

  -- ---- the parts are canonical

  -- the first of the parts starts no sooner than the place
  abbrev StartsFrom : Option K → List X → Type 0
  StartsFrom at [] = ⊤
  StartsFrom at (r ∷ rest) = is_le (R at (start_place r)) ≡ true

  -- it starts later
  abbrev pub StartsAfter : Option K → List X → Type 0
  StartsAfter at [] = ⊤
  StartsAfter at (r ∷ rest) = R at (start_place r) ≡ Less

  after_from : (a b : Option K) (rest : List X) → R a b ≡ Less → StartsFrom b rest → StartsAfter a rest
  after_from a b [] h s = tt
  after_from a b (r ∷ rest) h s = lt_le o {a = a} {b = b} {c = start_place r} h s

  from_after : (a b : Option K) (rest : List X) → is_le (R a b) ≡ true → StartsAfter b rest → StartsFrom a rest
  from_after a b [] h s = tt
  from_after a b (r ∷ rest) h s = le_through o a b (start_place r) h (le_Less s)

  from_sooner : (a b : Option K) (rest : List X) → is_le (R a b) ≡ true → StartsFrom b rest → StartsFrom a rest
  from_sooner a b [] h s = tt
  from_sooner a b (r ∷ rest) h s = le_through o a b (start_place r) h s

  pub after_sooner : (a b : Option K) (rest : List X) → is_le (R a b) ≡ true → StartsAfter b rest → StartsAfter a rest
  after_sooner a b [] h s = tt
  after_sooner a b (r ∷ rest) h s = le_lt o {a = a} {b = b} {c = start_place r} h s

  pub canonical_cons : (g : X) (rest : List X) → IsStorable k g → StartsAfter (end_place g) rest → IsCanonicalSet k rest → IsCanonicalSet k (g ∷ rest)
  canonical_cons g [] stored s can = (stored, tt, tt)
  canonical_cons g (r ∷ rest) stored s can = (stored, (p.before_from g r stored can.0 (le_Less s), λ t. absurd (Less-Equal s (p.touches g r stored can.0 t))), can)

  -- a list that is canonical, and starts no sooner than the place
  abbrev IsFrom : Option K → List X → Type 0
  IsFrom at list = IsCanonicalSet k list × StartsFrom at list

  -- one part more
  cut_from : (a b : EndpointOf X) → IsAskedAt k a → IsAskedAt k b → (rest : List X) → IsCanonicalSet k rest → StartsAfter (place b) rest → StartsFrom (place a) rest → IsFrom (place a) (cut a b rest)
  cut_from a b sa sb rest can after sooner = go (is_before k end_place a b) refl
    where
      go : (t : Bool) → is_before k end_place a b ≡ t → IsFrom (place a) (cond t (part a b ∷ rest) rest)
      go true e =
          let s = p.spans a b sa sb e in
          (canonical_cons (part a b) rest s.storable (after_sooner (end_place (part a b)) (place b) rest (le_Equal s.to) after) can, le_Equal (eq_turn o {a = start_place (part a b)} {b = place a} s.from))
      go false e = (can, sooner)

  to_start : (q r : X) → is_le (R (to q r) (start_place q)) ≡ true
  to_start q r = by (is_before k end_place (AtStart q) (AtEnd r)) refl
    where
      by : (b : Bool) → is_before k end_place (AtStart q) (AtEnd r) ≡ b → is_le (R (place (cond b (AtStart q) (AtEnd r))) (start_place q)) ≡ true
      by true e = le_Equal (itself o (start_place q))
      by false e = not_lt o (start_place q) (end_place r) e

  to_end : (q r : X) → is_le (R (to q r) (end_place r)) ≡ true
  to_end q r = by (is_before k end_place (AtStart q) (AtEnd r)) refl
    where
      by : (b : Bool) → is_before k end_place (AtStart q) (AtEnd r) ≡ b → is_le (R (place (cond b (AtStart q) (AtEnd r))) (end_place r)) ≡ true
      by true e = le_Less (lt_is _ e)
      by false e = le_Equal (itself o (end_place r))

  module _ (on : List X → List X) (r : X) (stored : IsStorable k r) (on_canonical : (qs : List X) → IsCanonicalSet k qs → IsCanonicalSet k (on qs))
      (on_starts : (qs : List X) → IsCanonicalSet k qs → StartsAfter (end_place r) (on qs)) where
    canonical_from : (passed : Option X) → IfSome passed (IsStorable k) → R (from passed r) (end_place r) ≡ Less → (qs : List X) → IsCanonicalSet k qs → IsFrom (from passed r) (parts on r passed qs)
    canonical_from passed sp near [] can =
        cut_from (part_start passed r) (AtEnd r) (start_asked passed r sp stored) (asked k r stored) (on []) (on_canonical [] tt) (on_starts [] tt)
        (from_after (from passed r) (end_place r) (on []) (le_Less near) (on_starts [] tt))
    canonical_from passed sp near (q ∷ qs) can =
        by (is_before k end_place (part_start passed r) (AtEnd q)) refl (λ within. canonical_from (Some q) can.0 within qs can.2) (canonical_from passed sp near qs can.2)
      where
        go : (b : Bool) → is_before k end_place (AtEnd q) (AtEnd r) ≡ b → is_before k end_place (part_start passed r) (AtEnd q) ≡ true
            → (R (end_place q) (end_place r) ≡ Less → IsFrom (end_place q) (parts on r (Some q) qs))
            → IsFrom (from passed r) (cut (part_start passed r) (part_end k end_place q r) (cond b (parts on r (Some q) qs) (on (q ∷ qs))))
        go true within reached behind_q =
            let ps = parts on r (Some q) qs in
            let more = behind_q (lt_is _ within) in
            cut_from (part_start passed r) (part_end k end_place q r) (start_asked passed r sp stored) (end_asked q r can.0 stored) ps more.0
            (after_from (to q r) (end_place q) ps (le_lt o {a = to q r} {b = start_place q} {c = end_place q} (to_start q r) (p.non_empty q can.0)) more.1)
            (from_sooner (from passed r) (end_place q) ps (le_Less (lt_is _ reached)) more.1)
        go false past reached behind_q =
            let after = on_starts (q ∷ qs) can in
            cut_from (part_start passed r) (part_end k end_place q r) (start_asked passed r sp stored) (end_asked q r can.0 stored) (on (q ∷ qs)) (on_canonical (q ∷ qs) can)
            (after_sooner (to q r) (end_place r) (on (q ∷ qs)) (to_end q r) after)
            (from_after (from passed r) (end_place r) (on (q ∷ qs)) (le_Less near) after)

        by : (b : Bool) → is_before k end_place (part_start passed r) (AtEnd q) ≡ b
            → (R (end_place q) (end_place r) ≡ Less → IsFrom (end_place q) (parts on r (Some q) qs)) → IsFrom (from passed r) (parts on r passed qs)
            → IsFrom (from passed r) (cond b (cut (part_start passed r) (part_end k end_place q r) (cond (is_before k end_place (AtEnd q) (AtEnd r)) (parts on r (Some q) qs) (on (q ∷ qs)))) (parts on r passed qs))
        by true reached behind_q skipped = go (is_before k end_place (AtEnd q) (AtEnd r)) refl reached behind_q
        by false early behind_q skipped = skipped

  difference_from : (r : X) (ps qs : List X) → IsCanonicalSet k (r ∷ ps) → IsCanonicalSet k qs → IsFrom (start_place r) (difference_items k end_place part (r ∷ ps) qs)
  difference_from r [] qs can-p can-q = canonical_from (λ rs. []) r can-p.0 (λ rs can. tt) (λ rs can. tt) None tt (p.non_empty r can-p.0) qs can-q
  difference_from r (s ∷ ps) qs can-p can-q =
      canonical_from (difference_items k end_place part (s ∷ ps)) r can-p.0
      (λ rs can. (difference_from s ps rs can-p.2 can).0)
      (λ rs can. after_from (end_place r) (start_place s) (difference_items k end_place part (s ∷ ps) rs) (ends_before p r s ps can-p) (difference_from s ps rs can-p.2 can).1)
      None tt (p.non_empty r can-p.0) qs can-q

  difference_canonical : (ps qs : List X) → IsCanonicalSet k ps → IsCanonicalSet k qs → IsCanonicalSet k (difference_items k end_place part ps qs)
  difference_canonical [] qs can-p can-q = tt
  difference_canonical (r ∷ ps) qs can-p can-q = (difference_from r ps qs can-p can-q).0

  -- the parts are what the first list has alone
  pub are_without : (ps qs : List X) → IsCanonicalSet k ps → IsCanonicalSet k qs → AreWithout k ps qs (difference_items k end_place part ps qs)
  are_without ps qs can-p can-q = record {
    canonical = difference_canonical ps qs can-p can-q;
    points = λ x key. difference_points x key ps qs can-p can-q;
  }
