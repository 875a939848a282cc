use Rattle.std.proofs.Common.{sym, ◌∙◌}
use Rattle.std.specs.Cmp.Rules.{signed_items}
use Rattle.rc_base.specs.Contexts.Context.{identity}
use Rattle.geometry.proofs.Identity.{fixed_by}
use Rattle.geometry.proofs.identities.is_identity.Goals as goal

pub returns-clause-identity : goal.returns-clause-identity
returns-clause-identity c =
    let same = signed_items c.args.m.now.m identity.m in
    (λ h. same.0 (sym c.are_same.ensures ∙ h), λ e. c.are_same.ensures ∙ same.1 e)

pub returns-clause-fixes : goal.returns-clause-fixes
returns-clause-fixes c h = fixed_by c.args.m.now ((signed_items c.args.m.now.m identity.m).0 (sym c.are_same.ensures ∙ h))
