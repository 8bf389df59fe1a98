use Rattle.std.proofs.Common.{◌∙◌, [], ◌∷◌, ◌++◌, ap, append_assoc, append-nil, filter, subst, sym}
use Rattle.std.specs.BTreeMap.Range.{range_contains}
use Rattle.std.specs.Range.Bound.{bound_map}
use Rattle.std.specs.declared.ops.Bound.TheVariants.{Excluded}
use Rattle.rangemap_tree.specs.Starts.{AreStarts}
use Rattle.rangemap_tree.proofs.StartLemmas.{turned}
use Rattle.rangemap_tree.proofs.by_start.ByStart.starts_between.Goals as goal

pub returns : goal.returns
returns g c =
    let cmp = g.K.Ord.cmp in
    subst (AreStarts cmp (filter (λ p. range_contains cmp (bound_map (λ x. x.now) c.args.from) (Excluded c.args.to.now) p.0.start) c.args.self.now)) (append-nil c.pairs.starts.items)
    (c.pairs.invariant [] (subst (λ ps. AreStarts cmp ps []) (sym c.in_default.ensures.0) tt))

pub pairs-preserved : goal.pairs-preserved
pairs-preserved g c = λ more rest.
    let cmp = g.K.Ord.cmp in
    let key = c.in_ok-clone-2.field-0 in
    let tie = turned g.met.K.Ord.total _ _ (c.requires.faithful _ _ c.in_ok-clone-2.ensures.cases) in
    subst (AreStarts cmp (filter (λ p. range_contains cmp (bound_map (λ x. x.now) c.args.from) (Excluded c.args.to.now) p.0.start) c.args.self.now)) (sym (ap (λ xs. xs ++ more) c.in_ok-push.ensures.items ∙ append_assoc c.pairs.starts.items (key ∷ []) more))
    (c.pairs.invariant (key ∷ more) (subst (λ ps. AreStarts cmp ps (key ∷ more)) (sym c.in-Some.ensures) (tie, rest)))
