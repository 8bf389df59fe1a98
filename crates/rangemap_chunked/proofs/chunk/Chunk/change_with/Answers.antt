use Rattle.std.proofs.Common.{arith, ◌≡◌, ◌∙◌, ◌+◌, ◌<◌, ◌++◌, ◌∷◌, [], List, Option, ap, drop, length, length-append, subst, sym, take, option_to_list}
use Rattle.std.proofs.lemmas.List.{same_from_push}
use Rattle.rangemap_core.specs.Ranges.{IsCanonical, value_at}
use Rattle.rangemap_sorted.specs.Changes.{IsChanged}
use Rattle.rangemap_chunked.proofs.MoveLemmas.{alone, back_again, longer, rest_of}
use Rattle.rangemap_chunked.proofs.chunk.Chunk.change_with.Goals as goal
use Rattle.rangemap_chunked.proofs.chunk.Chunk.change_with.Goals.{After-push_reserved, in-Some, in_default-pop}

bound : (g : _) (c : After-push_reserved g) → c.args.place < length c.other.inside.pairs.items
bound g c = subst (λ (xs : List (g.row.R.Denot × g.row.V.Denot)). c.args.place < length xs) (sym c.other.view_is) c.requires.in_bounds

-- the pairs with the one of the other chunk
moved : (g : _) (c : After-push_reserved g) → c.push_reserved.new.self.items ≡ c.args.self.now ++ take 1 (drop c.args.place c.args.other.now)
moved g c =
    let one = alone c.other.inside.pairs.items c.args.place (bound g c) c.remove.result c.remove.ensures.value in
    c.push_reserved.ensures.items ∙ (λ i. (c.reserve.ensures.items ∙ c.self.view_is) i ++ one i) ∙ ap (λ (xs : List (g.row.R.Denot × g.row.V.Denot)). c.args.self.now ++ take 1 (drop c.args.place xs)) c.other.view_is

one_more : (g : _) (c : After-push_reserved g) → length c.push_reserved.new.self.items ≡ length c.args.self.now + 1
one_more g c = ap length (moved g c) ∙ longer c.args.other.now c.args.place c.requires.in_bounds c.args.self.now

pub change-requires-clause-canonical : goal.change-requires-clause-canonical
change-requires-clause-canonical g c = subst (IsCanonical g.Q.Kind.kind g.V.PartialEq.eq) (sym (moved g (goal.at.change-requires-clause-canonical g c).After-push_reserved)) c.requires.canonical

pub returns-clause-ok : goal.returns-clause-ok
returns-clause-ok g c = subst (λ (xs : List (g.row.R.Denot × g.row.V.Denot)). IsChanged g.Q.Kind.kind g.V.PartialEq.eq (value_at g.Q.Kind.kind xs) c.args.range c.args.value c.change.new.list.items) (moved g (goal.at.returns-clause-ok g c).After-push_reserved) c.in-Ok.ensures.ok

pub returns-clause-rest : goal.returns-clause-rest
returns-clause-rest g c = c.cut.ensures.items ∙ ap (drop c.args.place) c.remove.ensures.by_index.2 ∙ rest_of c.other.inside.pairs.items c.args.place (bound g (goal.at.returns-clause-rest g c).After-push_reserved) ∙ ap (drop (c.args.place + 1)) c.other.view_is

pub returns-clause-growth : goal.returns-clause-growth
returns-clause-growth g c = let more = one_more g (goal.at.returns-clause-growth g c).After-push_reserved in omega (arith, c.in-Ok.ensures.growth, more)

pub returns-clause-growth_where_all_are_equal : goal.returns-clause-growth_where_all_are_equal
returns-clause-growth_where_all_are_equal g c = λ equal. let more = one_more g (goal.at.returns-clause-growth_where_all_are_equal g c).After-push_reserved in omega (arith, c.in-Ok.ensures.growth_where_all_are_equal equal, more)

pub returns-in_default-clause-err : goal.returns-in_default-clause-err
returns-in_default-clause-err g c =
    let other = c.other.inside.pairs.items in
    let l = bound g (goal.at.returns-in_default-clause-err g c).After-push_reserved in
    let left = c.pop.new.self.items in
    let now : left ++ option_to_list c.pop.result ≡ c.reserve.new.self.items ++ c.remove.result ∷ [] = sym c.pop.ensures.items ∙ c.in_default.ensures.err ∙ c.push_reserved.ensures.items in
    elim c.match-pop.branch [
      | in-Some w ↦
          let both = same_from_push left c.reserve.new.self.items w.in-Some.pair c.remove.result (sym (ap (λ (o : Option (g.row.R.Denot × g.row.V.Denot)). left ++ option_to_list o) w.in-Some.is) ∙ now) in
          (both.0 ∙ c.reserve.ensures.items ∙ c.self.view_is, (λ i. (w.other-inside-is i).pairs.items) ∙ back_again other c.args.place l c.remove.result c.remove.ensures.value w.in-Some.pair c.remove.new.self.items w.insert_reserved.new.list.items both.1 c.remove.ensures.by_index.2 w.insert_reserved.ensures ∙ c.other.view_is)
      | in_default-pop w ↦
          let more : length c.change.new.list.items ≡ length c.reserve.new.self.items + 1 = ap length (c.in_default.ensures.err ∙ c.push_reserved.ensures.items) ∙ length-append c.reserve.new.self.items (c.remove.result ∷ []) in
          let len : c.change.new.list.len ≡ length c.change.new.list.items = c.change.new.list.ok.0 in
          let some : 0 < c.change.new.list.len = omega (arith, more, len) in
          absurd (w.in_default-pop.not-Some _ (c.pop.ensures.value c.remove.result some))
    ]
