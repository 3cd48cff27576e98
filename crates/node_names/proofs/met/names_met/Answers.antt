use Rattle.std.proofs.Common.{◌≡◌, ◌<◌, ◌++◌, ◌∷◌, [], ℕ, List, Bool, true, false, Some, get_or, length, set, ap, sym}
use Rattle.std.proofs.Common.{◌∙◌, refl, arith}
use Rattle.std.specs.Prelude.{slice_get}
use Rattle.std.specs.Global.{Vec}
use Rattle.std.proofs.lemmas.Option.{slice_get-get_or, slice_get_read}
use Rattle.node_names.proofs.Meeting.{met_more, met_moved}
use Rattle.node_names.proofs.met.names_met.Goals as goal
use Rattle.node_names.proofs.met.names_met.Goals.{then-not-index+in_ok-copy+in_ok-push, else-not-index}

pub loop-var-preserved : goal.loop-var-preserved
loop-var-preserved c =
    let names = c.args.names.now in
    let seen = c.loop-var.seen.items in
    let met = c.loop-var.met.items in
    let place = (get_or c.args.occurrences.now c.loop-var.var-index (record { 0 = 0 })).0 in
    elim c.if-not-index.branch [
      | then-not-index+in_ok-copy+in_ok-push w ↦
          let name = w.index-names-place.result in
          let at : slice_get names place ≡ Some name =
          slice_get_read names (length names) place name refl c.if-place-names.false w.index-names-place.is in
          let lt : place < length seen = omega (arith, c.loop-var.invariant.long, c.if-place-names.false) in
          let unseen : slice_get seen place ≡ Some false =
          slice_get-get_or seen place _ lt ∙ ap (λ (b : Bool). Some b) (sym c.index.ensures ∙ w.if-not-index.true) in
          met_moved names (set seen place true) c.if-not-index.seen.items (met ++ name ∷ []) c.if-not-index.met.items
          (ap (λ (v : Vec Bool). v.items) w.seen-is)
          (ap (λ (v : Vec (List ℕ)). v.items) w.met-is ∙ w.in_ok-push.ensures.items
          ∙ ap (λ (x : List ℕ). met ++ x ∷ []) w.in_ok-copy.ensures)
          (met_more names seen met place name c.requires at unseen c.loop-var.invariant)
      | else-not-index w ↦
          met_moved names seen c.if-not-index.seen.items met c.if-not-index.met.items
          (ap (λ (v : Vec Bool). v.items) w.seen-is) (ap (λ (v : Vec (List ℕ)). v.items) w.met-is)
          c.loop-var.invariant
    ]
