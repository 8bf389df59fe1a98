use Rattle.std.proofs.Common.{rules, ℕ, ◌≡◌, ◌∷◌, [], refl, sym, true≢false}
use Rattle.std.specs.Ordering.{nat_cmp}
use Rattle.std.specs.declared.cmp.Ordering.TheVariants.{Less}
use Rattle.serde_json.specs.declared.value.Value.{Value}
use Rattle.rangemap_core.specs.Ranges.{IsStorable, half_open}
use Rattle.rangemap_formats.specs.Json.{IsRead, map_entry, map_reader}
use Rattle.rangemap_laws.specs.SmallLists.{range, reads}
use Rattle.rangemap_laws.proofs.definitions.json_rows.Goals as goal

-- the pair of three numbers
read : (of : ℕ → Value) (start end value : ℕ) (v : Value) → map_entry v (of start) (of end) (of value) → IsRead (half_open nat_cmp) (map_reader (reads of) (reads of)) (range start end, value) v
read of start end value v shape = record {
  start = of start;
  end = of end;
  value = of value;
  shape = shape;
  start_is = (start, refl, refl);
  end_is = (end, refl, refl);
  value_is = (value, refl, refl);
}

storable : (start end : ℕ) → nat_cmp start end ≡ Less → IsStorable (half_open nat_cmp) (range start end)
storable start end less = record { start_is_key = tt; end_is_key = tt; non_empty = less }

pub returns-clause-inserted : goal.returns-clause-inserted
returns-clause-inserted c = λ of v one two is first second. record {
  entries = one ∷ two ∷ [];
  is_list = is;
  inserted = record {
    pairs = (range 0 10, 1) ∷ (range 3 6, 2) ∷ [];
    read = (read of 0 10 1 one first, (read of 3 6 2 two second, tt));
    accepted = (storable 0 10 refl, (storable 3 6 refl, tt));
    canon = search rules;
  };
  same = λ h. search rules;
}

pub returns-clause-out_of_order : goal.returns-clause-out_of_order
returns-clause-out_of_order c = λ of v one two is first second. (
  refl,
  record {
    entries = one ∷ two ∷ [];
    is_list = is;
    before = (range 0 10, 1) ∷ [];
    read = (read of 0 10 1 one first, tt);
    accepted = (storable 0 10 refl, tt, tt);
    entry = two;
    is_there = refl;
    fails = ((range 3 6, 2), (range 0 10, 1), read of 3 6 2 two second, storable 3 6 refl, ([], refl), λ before. true≢false (sym before));
  },
)

pub returns-clause-uncoalesced : goal.returns-clause-uncoalesced
returns-clause-uncoalesced c = λ of v one two is first second. (
  refl,
  record {
    entries = one ∷ two ∷ [];
    is_list = is;
    before = (range 0 5, 1) ∷ [];
    read = (read of 0 5 1 one first, tt);
    accepted = (storable 0 5 refl, tt, tt);
    entry = two;
    is_there = refl;
    fails = ((range 5 9, 1), (range 0 5, 1), read of 5 9 1 two second, storable 5 9 refl, ([], refl), refl, refl, refl);
  },
)
