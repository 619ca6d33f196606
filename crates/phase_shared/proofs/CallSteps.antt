-- What holds at a call's terms, and at its phaser's, which are the same.
use Rattle.std.proofs.Common.{◌≡◌, Option, sym, subst}
use Rattle.phase_base.specs.Limits.{Limits}
use Rattle.phase_shared.specs.declared.rule.Terms.{Terms}
use Rattle.phase_shared.specs.Goods.{Allows, allows_or}
use Rattle.phase_shared.specs.LockedPhasers.{some_terms}

module _ {K : Type 0} (allows : K → Allows) (at : Terms K) (terms : Terms (Option K)) (is : terms ≡ some_terms at) where
  pub at_phaser : (P : Limits → Allows → Type 0) → P terms.limits (allows_or allows terms.rule) → P at.limits (allows at.rule)
  at_phaser P there = subst (λ (s : Terms (Option K)). P s.limits (allows_or allows s.rule)) is there

  pub at_call : (P : Limits → Allows → Type 0) → P at.limits (allows at.rule) → P terms.limits (allows_or allows terms.rule)
  at_call P there = subst (λ (s : Terms (Option K)). P s.limits (allows_or allows s.rule)) (sym is) there
