-- What a session writes is one.
use Rattle.std.proofs.Common.{◌≡◌, ℕ, List, [], ◌∷◌, ◌++◌, refl, sym, ◌∙◌, ap, subst, arith, length, length-append}
use Rattle.std.specs.Prelude.{Bool}
use Rattle.term_core.specs.Tree.{Tree}
use Rattle.spec_core.specs.declared.records.Spec.{Spec}
use Rattle.spec_core.specs.WellSorted.{IsWellSorted}
use Rattle.spec_core.proofs.Findings.{one_first, not_both}
use Rattle.clause_core.specs.ClauseLaws.{OneRelation}
use Rattle.proof_script.specs.Claims.{report_text}
use Rattle.session_core.specs.declared.commands.Command.{Command}
use Rattle.session_core.specs.declared.errors.SessionError.{SessionError}
use Rattle.session_core.specs.States.{State, start, pending}
use Rattle.session_core.specs.Accepting.{Accepts}
use Rattle.session_core.specs.Refusals.{IsRefusedFor, tests}
use Rattle.session_core.specs.SessionText.{error_text, ok_line, refused_line, is_open, Replies, accepted, refused}
use Rattle.session_core.specs.SessionText.{taken_back}
use Rattle.session_core.specs.SessionText.{nothing_to_undo, RepliesAll, no_more, then, IsSessionText}
use Rattle.session_core.specs.Sessions.{IsStateOf}
use Rattle.session_core.specs.Sound.{report_of}
use Rattle.session_core.proofs.LastEntries.{init}
use Rattle.session_core.proofs.OneState.{accepted_clean, lead_more, lead_one}

-- nothing ends in an item
no_last : {A : Type 0} (xs ys : List A) (x : A) → xs ≡ ys ++ x ∷ [] → xs ≡ [] → ⊥
no_last xs ys x e f =
    let a : length xs ≡ length (ys ++ x ∷ []) = ap (λ zs. length zs) e in
    let b : length xs ≡ 0 = ap (λ zs. length zs) f in
    omega (arith, a, b, length-append ys (x ∷ []))

module _ (above : Tree → Tree → Type 0) (spec : Spec) (one : OneRelation above) (fine : IsWellSorted spec) where
  state_one : (commands : List Command) (state other : State) → IsStateOf above spec commands state →
      IsStateOf above spec commands other → state ≡ other
  state_one commands state other p q = lead_one above spec one fine start commands state other p q

  next_one : (history : List Command) (command : Command) (old new older newer : State) →
      IsStateOf above spec history old → Accepts above spec old command new → IsStateOf above spec history older →
      Accepts above spec older command newer → new ≡ newer
  next_one history command old new older newer p a q b = state_one (history ++ command ∷ []) new newer
      (lead_more above spec start history old new command p a) (lead_more above spec start history older newer command
      q b)

  not_refused : (history : List Command) (command : Command) (old new state : State) (why : SessionError) →
      IsStateOf above spec history old → Accepts above spec old command new → IsStateOf above spec history state →
      IsRefusedFor above spec state command why → ⊥
  not_refused history command old new state why p a q r =
      let e : state ≡ old = state_one history state old q p in
      not_both (tests above spec old command) why (accepted_clean above spec one fine old command new a)
      (subst (λ s. IsRefusedFor above spec s command why) e r)

  why_one : (history : List Command) (command : Command) (state other : State) (why reason : SessionError) →
      IsStateOf above spec history state → IsRefusedFor above spec state command why →
      IsStateOf above spec history other → IsRefusedFor above spec other command reason → why ≡ reason
  why_one history command state other why reason p r q s =
      let e : other ≡ state = state_one history other state q p in
      one_first (tests above spec state command) why reason r (subst (λ x. IsRefusedFor above spec x command reason) e
      s)

  -- a command gets one line, and leaves one list of commands
  pub reply_one : {history : List Command} {command : Command} {line other : List ℕ} {after later : List Command} →
      Replies above spec history command line after → Replies above spec history command other later →
      (line ≡ other) × (after ≡ later)
  reply_one {history} {command} (accepted old new p a) (accepted older newer q b) =
      (ap (λ s. ok_line (pending s)) (next_one history command old new older newer p a q b), refl)
  reply_one {history} {command} (accepted old new p a) (refused state why q r) =
      absurd (not_refused history command old new state why p a q r)
  reply_one (accepted old new p a) (taken_back last state e q) = absurd a
  reply_one (accepted old new p a) (nothing_to_undo e) = absurd a
  reply_one {history} {command} (refused state why q r) (accepted old new p a) =
      absurd (not_refused history command old new state why p a q r)
  reply_one {history} {command} (refused state why p r) (refused other reason q s) =
      (ap (λ w. refused_line (error_text w)) (why_one history command state other why reason p r q s), refl)
  reply_one (refused state why p r) (taken_back last other e q) = absurd r
  reply_one (refused state why p r) (nothing_to_undo e) = absurd r
  reply_one (taken_back last state e p) (accepted old new q a) = absurd a
  reply_one (taken_back last state e p) (refused other why q r) = absurd r
  reply_one {history} (taken_back {before = before} last state e p) (taken_back {before = others} end other f q) =
      let g : before ≡ others = sym (init history before last e) ∙ init history others end f in (
        ap (λ s. ok_line (pending s)) (state_one others state other (subst (λ cs. IsStateOf above spec cs state) g p)
            q),
        g,
      )
  reply_one {history} (taken_back {before = before} last state e p) (nothing_to_undo f) =
      absurd (no_last history before last e f)
  reply_one (nothing_to_undo e) (accepted old new p a) = absurd a
  reply_one (nothing_to_undo e) (refused state why p r) = absurd r
  reply_one {history} (nothing_to_undo f) (taken_back {before = before} last state e p) =
      absurd (no_last history before last e f)
  reply_one (nothing_to_undo e) (nothing_to_undo f) = (refl, refl)

  replies_one : {history commands left others : List Command} {text other : List ℕ} →
      RepliesAll above spec history commands text left → RepliesAll above spec history commands other others →
      (text ≡ other) × (left ≡ others)
  replies_one no_more no_more = (refl, refl)
  replies_one (then {commands = commands} {left = left} {line = line} {text = text} p q) (then {line = other} {text =
      rest} r s) =
      let e = reply_one p r in
      let h = replies_one (subst (λ cs. RepliesAll above spec cs commands text left) e.1 q) s in
      ((λ i. e.0 i ++ h.0 i), h.1)

  -- the text of a session, and whether a goal is under work at its end
  pub text_one : (commands : List Command) (text other : List ℕ) (busy again : Bool) →
      IsSessionText above spec commands text busy → IsSessionText above spec commands other again → (text ≡ other) ×
      (busy ≡ again)
  text_one commands text other busy again p q =
      let r = replies_one p.replies q.replies in
      let s : p.state ≡ q.state = state_one q.left p.state q.state (subst (λ cs. IsStateOf above spec cs p.state) r.1
      p.state_is) q.state_is in (
        p.is ∙ (λ i. r.0 i ++ report_text spec.sig (report_of 1000 (s i))) ∙ sym q.is,
        p.ends ∙
            ap (λ (x : State). is_open x.work) s ∙ sym q.ends,
      )
