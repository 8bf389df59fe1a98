use Rattle.std.proofs.Common.{refl, sym, true≢false}
use Rattle.rangemap_laws.proofs.definitions.set_and_text_rows.Goals as goal

-- no given range goes on at 5
pub returns-clause-joined : goal.returns-clause-joined
returns-clause-joined c = λ h. true≢false (sym (h.hulls.0.uncut 5 tt refl))
