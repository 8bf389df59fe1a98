-- Pairs of a range and a value by the starts of the ranges, and the entries of a tree that keeps them by these.
use Rattle.std.specs.Prelude.{◌≡◌, Bool, false, not, ◌||◌, List, [], ◌∷◌, ◌++◌, Option, Some, None, filter}
use Rattle.std.specs.BTreeMap.{BTreeMap}
use Rattle.std.specs.List.{AllZip}
use Rattle.std.specs.declared.cmp.Ordering.{Ordering}
use Rattle.std.specs.declared.cmp.Ordering.TheVariants.{Equal}
use Rattle.std.specs.Ordering.{is_eq, is_lt, is_le}
use Rattle.std.specs.declared.ops.Range.{Range}

module _ {K V : Type 0} (cmp : K → K → Ordering) where
  -- the pair starts no earlier than x
  abbrev pub starts_from : K → Range K × V → Bool
  starts_from x p = is_le (cmp x p.0.start)

  -- the pair starts later than x
  abbrev pub starts_past : K → Range K × V → Bool
  starts_past x p = is_lt (cmp x p.0.start)

  -- the pairs that start before x
  abbrev pub before : K → List (Range K × V) → List (Range K × V)
  before x ps = filter (λ p. not (starts_from x p)) ps

  -- the pairs that start no earlier than x
  abbrev pub from : K → List (Range K × V) → List (Range K × V)
  from x ps = filter (starts_from x) ps

  -- the pairs that start later than x
  abbrev pub past : K → List (Range K × V) → List (Range K × V)
  past x ps = filter (starts_past x) ps

  -- the pairs that start no later than x
  abbrev pub up_to : K → List (Range K × V) → List (Range K × V)
  up_to x ps = filter (λ p. not (starts_past x p)) ps

  -- the pairs of which a change of a range that ends at x looks at the last: a value is also joined with one that starts at x
  abbrev pub near_end : Option V → K → List (Range K × V) → List (Range K × V)
  near_end None x ps = before x ps
  near_end (Some v) x ps = up_to x ps

  -- the pairs behind them
  abbrev pub behind_end : Option V → K → List (Range K × V) → List (Range K × V)
  behind_end None x ps = from x ps
  behind_end (Some v) x ps = past x ps

  -- the pairs that do not start at x
  abbrev pub without : K → List (Range K × V) → List (Range K × V)
  without x ps = filter (λ p. not (is_eq (cmp x p.0.start))) ps

  -- the pair starts at one of the keys
  abbrev pub starts_in : List K → Range K × V → Bool
  starts_in [] p = false
  starts_in (x ∷ xs) p = is_eq (cmp x p.0.start) || starts_in xs p

  -- the pairs that start at none of the keys
  abbrev pub without_all : List K → List (Range K × V) → List (Range K × V)
  without_all xs ps = filter (λ p. not (starts_in xs p)) ps

  -- the keys tie with the starts of the pairs, one by one
  abbrev pub AreStarts : List (Range K × V) → List K → Type 0
  AreStarts ps xs = AllZip (λ (p : Range K × V) (x : K). cmp x p.0.start ≡ Equal) ps xs

  -- each entry's key ties with the start of its range
  abbrev pub AreKeyed : List (K × (Range K × V)) → Type 0
  AreKeyed [] = Unit {0}
  AreKeyed (e ∷ es) = (cmp e.0 e.1.0.start ≡ Equal) × AreKeyed es

-- the entries of a tree that may not be made yet
abbrev pub entries_in : {K X : Type 0} → Option (BTreeMap K X) → List (K × X)
entries_in None = []
entries_in (Some tree) = tree.entries

-- the list with another range at its last pair
abbrev pub recut : {K V : Type 0} → Option (Range K) → List (Range K × V) → List (Range K × V)
recut None ps = ps
recut (Some r) [] = []
recut (Some r) (p ∷ []) = (r, p.1) ∷ []
recut (Some r) (p ∷ q ∷ ps) = p ∷ recut (Some r) (q ∷ ps)

-- the pair of a key and a pair that starts there, as a list without the key
abbrev pub piece_list : {K V : Type 0} → Option (K × (Range K × V)) → List (Range K × V)
piece_list None = []
piece_list (Some q) = q.1 ∷ []

module _ {K V : Type 0} (cmp : K → K → Ordering) where
  -- the pairs with the piece put in at its key
  abbrev pub with_piece : Option (K × (Range K × V)) → List (Range K × V) → List (Range K × V)
  with_piece None ps = ps
  with_piece (Some q) ps = before cmp q.0 ps ++ q.1 ∷ past cmp q.0 ps

  -- the last pair before x is one that starts where the range does, if there is such a range
  abbrev pub IsCutThere : K → Option (Range K) → List (Range K × V) → Type 0
  IsCutThere x None ps = Unit {0}
  IsCutThere x (Some g) ps = (us : List (Range K × V)) × (a : Range K × V) × (before cmp x ps ≡ us ++ a ∷ []) × (cmp g.start a.0.start ≡ Equal)

  -- the key is that of the pair beside it
  abbrev pub IsKeyed : Option (K × (Range K × V)) → Type 0
  IsKeyed None = Unit {0}
  IsKeyed (Some q) = cmp q.0 q.1.0.start ≡ Equal

  -- the piece may be put in at x, where no pair starts
  abbrev pub IsNewAt : K → Option (K × (Range K × V)) → List (Range K × V) → Type 0
  IsNewAt x None ps = Unit {0}
  IsNewAt x (Some q) ps = (cmp q.0 q.1.0.start ≡ Equal) × (cmp q.0 x ≡ Equal) × (before cmp x ps ++ past cmp x ps ≡ ps)

  -- the range of the pair that starts there is another
  abbrev pub IsRecut : Option (Range K) → List (Range K × V) → List (Range K × V) → Type 0
  IsRecut None old new = new ≡ old
  IsRecut (Some g) old new = (us ws : List (Range K × V)) (a : Range K × V) → old ≡ us ++ a ∷ ws → cmp g.start a.0.start ≡ Equal → new ≡ us ++ (g, a.1) ∷ ws

-- each pair is made of clones of the one at its place
abbrev pub AreClones : {K V : Type 0} → (K → K → Type 0) → (V → V → Type 0) → List (Range K × V) → List (Range K × V) → Type 0
AreClones {K} {V} key value ps qs = AllZip (λ (p q : Range K × V). (key p.0.start q.0.start × key p.0.end q.0.end) × value p.1 q.1) ps qs
