use Rattle.std.proofs.Common.{arith, rules, ◌≡◌, ◌+◌, ◌-◌, ◌≤◌, ◌++◌, ℕ, Bool, true, false, [], take, drop, length, vec_len, sym, ap, ◌∙◌, append_assoc}
use Rattle.std.specs.Int.{from_bool}
use Rattle.std.specs.Option.{option_to_list}
use Rattle.rangemap_sorted.proofs.SpliceLemmas.{nothing_written, next, tail_turned, finished}
use Rattle.rangemap_sorted.proofs.splice.splice.Goals.{After-put-at-3}
use Rattle.rangemap_sorted.proofs.splice.splice.Goals as goal

-- ---- sizes, by lemmas over numbers: what is known of the call makes each step of arithmetic long

bit : (some : Bool) (n : ℕ) → n ≡ from_bool some → n ≤ 1
bit true n is = omega arith
bit false n is = omega arith

longer : (a b c d x y z : ℕ) → b ≡ a + x → c ≡ b + y → d ≡ c + z → a ≤ d
longer a b c d x y z one two three = omega arith

in_longer : (end a b c n : ℕ) → end ≤ a → b ≡ a → b ≤ c → n ≡ c → end ≤ n
in_longer end a b c n le same grown is = omega arith

-- no value is taken away before the stretch is closed
grown : (g : _) (c : After-put-at-3 g) → vec_len c.reserve.new.self ≤ vec_len c.put-at-3.new.list
grown g c = longer _ _ _ _ _ _ _ c.put-at.ensures.len c.put-at-2.ensures.len c.put-at-3.ensures.len

pub overflow_add-added : goal.overflow_add-added
overflow_add-added g c =
    let one : c.from.result ≤ 1 = bit c.is_some.result c.from.result c.from.ensures in
    let two : c.from-2.result ≤ 1 = bit c.is_some-2.result c.from-2.result c.from-2.ensures in
    omega arith

pub overflow_add-added-2 : goal.overflow_add-added-2
overflow_add-added-2 g c =
    let one : c.from.result ≤ 1 = bit c.is_some.result c.from.result c.from.ensures in
    let two : c.from-2.result ≤ 1 = bit c.is_some-2.result c.from-2.result c.from-2.ensures in
    let three : c.from-3.result ≤ 1 = bit c.is_some-3.result c.from-3.result c.from-3.ensures in
    omega arith

pub overflow_sub-pushed : goal.overflow_sub-pushed
overflow_sub-pushed g c = rw (c.len-len.ensures, c.len.ensures) (grown g (goal.at.overflow_sub-pushed g c).After-put-at-3)

pub slice_bounds-turn_right-count : goal.slice_bounds-turn_right-count
slice_bounds-turn_right-count g c = in_longer _ _ _ _ _ c.requires.in_bounds c.reserve.ensures.len (grown g (goal.at.slice_bounds-turn_right-count g c).After-put-at-3) c.deref_mut.ensures.len

pub returns-clause-ok : goal.returns-clause-ok
returns-clause-ok g c =
    let xs = c.reserve.new.self.items in
    let start = c.args.places.start in
    let end = c.args.places.end in
    let L = option_to_list c.args.left in
    let M = option_to_list c.args.middle in
    let R = option_to_list c.args.right in
    let same : xs ≡ c.args.list.now.items = c.reserve.ensures.items in
    let in_bounds : end ≤ length xs = omega (arith, ap length same) in
    let one = c.put-at in
    let two = c.put-at-2 in
    let three = c.put-at-3 in
    let none = nothing_written xs start end c.requires.start_le_end in_bounds in
    let first = next xs start end [] start xs none c.args.left one.result one.new.list.items one.ensures.next one.ensures.items in
    let second = next xs start end L one.result one.new.list.items first c.args.middle two.result two.new.list.items two.ensures.next two.ensures.items in
    let third = next xs start end (L ++ M) two.result two.new.list.items second c.args.right three.result three.new.list.items three.ensures.next three.ensures.items in
    finished xs start end (L ++ M ++ R) three.result three.new.list.items third in_bounds (c.len.result - c.len-len.result) three.new.list.len _ c.cut.new.list.items (search rules) (omega arith) (tail_turned c.deref_mut.result.now three.new.list.items c.turn_right.new.list _ _ end three.new.list.len _ c.deref_mut.ensures.value (sym c.deref_mut.ensures.len ∙ ap length c.deref_mut.ensures.value) (omega arith) c.turn_right.ensures) c.cut.ensures.items ∙ ap (λ ys. take start ys ++ (L ++ M ++ R) ++ drop end ys) same ∙ ap (λ vs. take start c.args.list.now.items ++ vs ++ drop end c.args.list.now.items) (append_assoc L M R)
