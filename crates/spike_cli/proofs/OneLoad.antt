-- Two reports with the same bounds have claims of the same kinds, so that what `load` writes is one text.
use Rattle.std.proofs.Common.{◌≡◌, ◌∙◌, ℕ, ◌+◌, List, [], ◌∷◌, Bool, refl, ap, map, sym}
use Rattle.std.specs.Prelude.{cond, count_by}
use Rattle.std.proofs.lemmas.List.Sums.{sum_by-cons}
use Rattle.clause_core.specs.declared.reports.Claim.{Claim}
use Rattle.clause_core.specs.declared.reports.Outcome.{Outcome}
use Rattle.clause_core.specs.declared.reports.Outcome.TheVariants.{Proved, Refuted, Open}
use Rattle.command_line.specs.Usual.{usual_bounds}
use Rattle.load_text.specs.LoadSpec.{load_spec}
use Rattle.reply_lines.specs.Lines.{claim_count, is_open, is_proved, is_refuted, load_lines}
use Rattle.spike_cli.specs.Claims.{number_proved}
use Rattle.spike_cli.specs.Loads.{IsLoad}
use Rattle.spike_cli.proofs.OneReportClaims.{whole_seen}

abbrev Kind : Type 0
Kind = Bool × Bool × Bool

-- whether a claim proves its goal, refutes it, or leaves it open
abbrev kind : Claim → Kind
kind claim = (is_proved claim.outcome, is_refuted claim.outcome, is_open claim.outcome)

number_of_kind :
    (number : ℕ) (o : Outcome) → number_proved number o ≡ cond (is_proved o) (number ∷ []) []
number_of_kind number (Proved block) = refl
number_of_kind number (Refuted index values) = refl
number_of_kind number (Open budget) = refl

tells_proved :
    (number : ℕ) (c d : Claim) → kind c ≡ kind d →
    number_proved number c.outcome ≡ number_proved number d.outcome
tells_proved number c d e =
    number_of_kind number c.outcome
    ∙ ap (λ (k : Kind). cond k.0 (number ∷ []) []) e
    ∙ sym (number_of_kind number d.outcome)

-- claims are counted by their kinds
module _ (test : Kind → Bool) where
  count_of_kinds :
      (cs : List Claim) → count_by (λ (c : Claim). test (kind c)) cs ≡ count_by test (map kind cs)
  count_of_kinds [] = refl
  count_of_kinds (c ∷ cs) =
      let f = λ (k : Kind). cond (test k) 1 0 in
      sum_by-cons (λ (c : Claim). f (kind c)) c cs
      ∙ ap (λ n. f (kind c) + n) (count_of_kinds cs)
      ∙ sym (sum_by-cons f (kind c) (map kind cs))

  same_count :
      (cs ds : List Claim) → map kind cs ≡ map kind ds →
      count_by (λ (c : Claim). test (kind c)) cs ≡ count_by (λ (c : Claim). test (kind c)) ds
  same_count cs ds e =
      count_of_kinds cs ∙ ap (λ ks. count_by test ks) e ∙ sym (count_of_kinds ds)

pub one_load : (goals : ℕ) (text other : List ℕ) → IsLoad goals text → IsLoad goals other →
    text ≡ other
one_load goals text other a b =
    let spec = load_spec goals in
    let cs = a.finished.claims in
    let ds = b.finished.claims in
    let same : map kind cs ≡ map kind ds =
    whole_seen kind usual_bounds spec (λ lemmas goal tried name block other_block p q. refl)
    tells_proved spec.goals cs ds a.finished.are_claims b.finished.are_claims in
    let p : claim_count is_proved cs ≡ claim_count is_proved ds =
    same_count (λ k. k.0) cs ds same in
    let r : claim_count is_refuted cs ≡ claim_count is_refuted ds =
    same_count (λ k. k.1) cs ds same in
    let o : claim_count is_open cs ≡ claim_count is_open ds = same_count (λ k. k.2) cs ds same in
    let lines : load_lines goals cs ≡ load_lines goals ds = rw (p, r, o) refl in
    a.is_text ∙ lines ∙ sym b.is_text
