-- The code of terms looks at slots that are there, and so it stays in each move.
use Rattle.std.proofs.Common.{◌≡◌, inl, inr, ℕ, suc, ◌<◌, ◌≤◌, List, [], ◌∷◌, ◌++◌, ap, sym, ◌∙◌, subst, arith, length}
use Rattle.std.proofs.Common.{length-append, append_assoc}
use Rattle.std.proofs.lemmas.List.{append-nil}
use Rattle.term_core.proofs.Items.{all_at}
use Rattle.term_core.specs.Tree.{Tree, Trees, var, app, none, some}
use Rattle.spec_core.specs.declared.records.Rule.{Rule}
use Rattle.spec_core.specs.declared.records.Spec.{Spec}
use Rattle.spec_core.specs.Sig.{Sig}
use Rattle.rule_code.specs.Code.{Step, build, call, End, slot, last, decide}
use Rattle.rule_code.specs.Compiled.{IsStep, Codes, CodesAll, IsBody, IsNext}
use Rattle.rule_code.specs.Homes.{AreOwnHomes}
use Rattle.rule_code.proofs.Slots.{slots_less}
use Rattle.bank_machine.specs.States.{State, Moves, builds, enters, enters_last, returns, decides, recalls}
use Rattle.bank_machine.specs.Ranged.{AreThere, IsRanged, IsRangedState}

module _ (rules : List Rule) (sig : Sig) (homes : List ℕ) where
  -- after the code of a term its slot is there, as all others, and the rest goes on
  pub record RangedAfter (next : ℕ) (steps : List Step) (s end : ℕ) : Type 0 where
    pub low : s < end
    pub le : next ≤ end
    pub goes : (rest : List Step) (finish : End) → IsRanged rules end rest finish →
        IsRanged rules next (steps ++ rest) finish

  pub record AllRangedAfter (next : ℕ) (steps : List Step) (ss : List ℕ) (end : ℕ) : Type 0 where
    pub low : AreThere end ss
    pub le : next ≤ end
    pub goes : (rest : List Step) (finish : End) → IsRanged rules end rest finish →
        IsRanged rules next (steps ++ rest) finish

  step_ranged : (f n : ℕ) (ss : List ℕ) (step : Step) (rest : List Step) (finish : End) → IsStep sig f ss step →
      AreThere n ss → IsRanged rules (suc n) rest finish → IsRanged rules n (step ∷ rest) finish
  step_ranged f n ss (build g us) rest finish is h r = (subst (λ z. AreThere n z) (sym is.2) h, r)
  step_ranged f n ss (call g us) rest finish is h r = (subst (λ z. AreThere n z) (sym is.2) h, r)

  mutual
    pub codes_ranged : (t : Tree) (next : ℕ) (steps : List Step) (s end : ℕ) → AreThere next homes →
        Codes sig homes t next steps s end → RangedAfter next steps s end
    codes_ranged (var n) next steps s end h (empty, at, e) =
        record {
          low = omega (arith, e, all_at (λ (z : ℕ). z < next) homes h n s at);
          le = omega (arith, e);
          goes = λ rest finish r. subst (λ z. IsRanged rules next (z ++ rest) finish) (sym empty)
              (subst (λ z. IsRanged rules z rest finish) e r);
        }
    codes_ranged (app f ts) next steps s end h (inner, ss, step, all, is, e, z) =
        let a = all_ranged ts next inner ss s h all in
        record {
          low = omega (arith, z);
          le = omega (arith, z, a.le);
          goes = λ rest finish r.
              let one : IsRanged rules s (step ∷ rest) finish = step_ranged f s ss step rest finish is a.low
              (subst (λ n. IsRanged rules n rest finish) z r) in
              subst (λ xs. IsRanged rules next xs finish)
              (sym (ap (λ xs. xs ++ rest) e ∙ append_assoc inner (step ∷ []) rest))
              (a.goes (step ∷ rest) finish one);
        }

    pub all_ranged : (ts : Trees) (next : ℕ) (steps : List Step) (ss : List ℕ) (end : ℕ) → AreThere next homes →
        CodesAll sig homes ts next steps ss end → AllRangedAfter next steps ss end
    all_ranged none next steps ss end h (empty, e, n) =
        record {
          low = subst (λ z. AreThere end z) (sym e) tt;
          le = omega (arith, n);
          goes = λ rest finish r. subst (λ z. IsRanged rules next (z ++ rest) finish) (sym empty)
              (subst (λ z. IsRanged rules z rest finish) n r);
        }
    all_ranged (some t ts) next steps ss end h (a, b, s, us, mid, one, more, e, u) =
        let p = codes_ranged t next a s mid h one in
        let q = all_ranged ts mid b us end (slots_less next mid homes p.le h) more in
        record {
          low = subst (λ z. AreThere end z) (sym u) (omega (arith, p.low, q.le), q.low);
          le = omega (arith, p.le, q.le);
          goes = λ rest finish r. subst (λ xs. IsRanged rules next xs finish)
              (sym (ap (λ xs. xs ++ rest) e ∙ append_assoc a b rest))
              (p.goes (b ++ rest) finish (q.goes rest finish r));
        }

  pub body_ranged : (t : Tree) (next : ℕ) (steps : List Step) (end : End) → AreThere next homes →
      IsBody sig homes t next steps end → IsRanged rules next steps end
  body_ranged t next steps (slot s) h (to, c) =
      let r = codes_ranged t next steps s to h c in
      subst (λ xs. IsRanged rules next xs (slot s)) (append-nil steps) (r.goes [] (slot s) r.low)
  body_ranged t next steps (decide s number k hs) h c = absurd c
  body_ranged t next steps (last f ss) h (ts, to, is, other, c) =
      let r = all_ranged ts next steps ss to h c in
      subst (λ xs. IsRanged rules next xs (last f ss)) (append-nil steps) (r.goes [] (last f ss) r.low)

  own_more : {number n m : ℕ} → AreOwnHomes rules number n homes → n ≤ m → AreOwnHomes rules number m homes
  own_more own le = record {
    rule = own.rule;
    left = own.left;
    listed = own.listed;
    side = own.side;
    are = own.are;
    room = omega (arith, own.room, le);
  }

  pub next_ranged : (number : ℕ) (rule : Rule) (k next : ℕ) (steps : List Step) (end : End) →
      AreThere next homes → AreOwnHomes rules number next homes →
      IsNext sig homes number rule k next steps end → IsRanged rules next steps end
  next_ranged number rule k next steps end h own (inl b) = body_ranged rule.right next steps end h b.1
  next_ranged number rule k next steps end h own (inr (g, s, taken, at, c, e)) =
      let r = codes_ranged g.test next steps s taken h c in
      subst (λ z. IsRanged rules next steps z) (sym e)
      (subst (λ xs. IsRanged rules next xs (decide s number k homes)) (append-nil steps)
      (r.goes [] (decide s number k homes) (r.low, slots_less next taken homes r.le h, own_more own r.le)))

one_more : (xs : List Tree) (x : Tree) → suc (length xs) ≡ length (xs ++ x ∷ [])
one_more xs x = omega (arith, length-append xs (x ∷ []))

pub move_ranged : (spec : Spec) {s next : State} {c : ℕ} → Moves spec s c next → IsRangedState spec.rules s →
    IsRangedState spec.rules next
move_ranged spec (builds {env} {f} {ss} {steps} {end})
    r = record { top = subst (λ n. IsRanged spec.rules n steps end) (one_more env _) r.top.1; waiting = r.waiting }
move_ranged spec (enters {env} {f} {ss} {steps} {end} entered e)
    r = record {
      top = next_ranged spec.rules spec.sig e.homes e.number e.rule 0 (length entered.env)
          entered.steps entered.end e.fills.below e.own e.code;
      waiting = (r.top.1, r.waiting);
    }
move_ranged spec (enters_last entered e) r = record {
  top = next_ranged spec.rules spec.sig e.homes e.number
      e.rule 0 (length entered.env) entered.steps entered.end e.fills.below e.own e.code;
  waiting = r.waiting;
}
move_ranged spec (returns {env} {s} back)
    r = record {
      top = subst (λ n. IsRanged spec.rules n back.steps back.end) (one_more back.env _) r.waiting.0;
      waiting = r.waiting.1;
    }
move_ranged spec (decides {env} {s} {number} {k} {homes} entered f)
    r = record {
      top = next_ranged spec.rules spec.sig homes f.other f.next (suc k) (length entered.env)
          entered.steps entered.end f.fills.below f.own f.code;
      waiting = r.waiting;
    }
move_ranged spec (recalls {env} {f} {ss} {steps} {end} v c so p g)
    r = record { top = subst (λ n. IsRanged spec.rules n steps end) (one_more env v) r.top.1; waiting = r.waiting }
