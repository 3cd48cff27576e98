use Rattle.std.proofs.Common.{◌≡◌, ◌∙◌, ◌<◌, ◌≤◌, ◌++◌, ◌∷◌, [], ap, arith, get_or, length, map, refl, sym}
use Rattle.std.proofs.lemmas.Bool.{ltb-false, ltb-true}
use Rattle.std.proofs.lemmas.List.{length-map, map-append}
use Rattle.std.proofs.lemmas.Option.{slice_get_read}
use Rattle.block_links.proofs.LinksAlone.{there_mapped}
use Rattle.inference_rules.specs.declared.nodes.Node.{Node}
use Rattle.session_core.specs.Kept.{Kept}
use Rattle.session_core.specs.Value.{kept_of}
use Rattle.session_core.proofs.LastEntries.{last_same, last_split, no_last_item, not_ended}
use Rattle.session_core.proofs.kept_goals.first_open.Goals as goal

pub returns-in_err-goal : goal.returns-in_err-goal
returns-in_err-goal c =
    let s = no_last_item c.args.goals.now _ refl (sym c.in_err-goal.ensures.value) in
    rw (c.from_residual.ensures) (λ h. not_ended h.front h.last (sym (ap (map kept_of) s) ∙ h.is))

pub returns-in_err-node : goal.returns-in_err-node
returns-in_err-node c =
    let g = c.in_ok-goal.goal.now in
    let s = last_split c.args.goals.now _ g refl (sym c.in_ok-goal.ensures.value) in
    let is : map kept_of c.args.goals.now ≡ map kept_of s.0 ++ kept_of g ∷ [] = ap (map kept_of) s.1 ∙
    map-append kept_of s.0 (g ∷ []) in
    let many : length (kept_of g).nodes ≡ length g.taken.nodes.items =
    length-map g.taken.nodes.items (λ (node : Node). node.clause) in
    let past : length c.as_slice.result.now ≤ c.len-number.result =
    ltb-false c.len-number.result (length c.as_slice.result.now) (sym c.in_err-node.ensures.lookup.0) in
    rw (c.from_residual-in_err-node.ensures) (λ h.
    let e : kept_of g ≡ h.last = last_same (map kept_of s.0) h.front (kept_of g) h.last (sym is ∙ h.is) in
    omega (
      arith,
      h.unfinished,
      past,
      c.len-number.ensures,
      c.as_slice.ensures.len,
      many,
      ap length c.as_slice.ensures.value,
      ap (λ (x : Kept). length x.nodes) e,
      ap (λ (x : Kept). length x.links) e,
    ))

pub returns : goal.returns
returns c =
    let g = c.in_ok-goal.goal.now in
    let s = last_split c.args.goals.now _ g refl (sym c.in_ok-goal.ensures.value) in
    let is : map kept_of c.args.goals.now ≡ map kept_of s.0 ++ kept_of g ∷ [] = ap (map kept_of) s.1 ∙
    map-append kept_of s.0 (g ∷ []) in
    let many : length (kept_of g).nodes ≡ length g.taken.nodes.items =
    length-map g.taken.nodes.items (λ (node : Node). node.clause) in
    let lt : c.len-number.result < length c.as_slice.result.now =
    ltb-true c.len-number.result (length c.as_slice.result.now) (sym c.in_ok-node.ensures.lookup.0) in
    let within : c.len-number.result < length g.taken.nodes.items = omega (
      arith,
      lt,
      ap length c.as_slice.ensures.value,
    ) in
    let read : c.in_ok-node.node.now ≡ get_or g.taken.nodes.items c.len-number.result c.in_ok-node.node.now =
    c.in_ok-node.ensures.lookup.1 ∙ ap (λ ns. get_or ns c.len-number.result c.in_ok-node.node.now)
    c.as_slice.ensures.value in
    let at = there_mapped (λ (n : Node). n.clause) g.taken.nodes.items c.len-number.result c.in_ok-node.node.now
    (slice_get_read g.taken.nodes.items (length g.taken.nodes.items) c.len-number.result c.in_ok-node.node.now
    refl within read) in
    let n : c.len-number.result ≡ length g.taken.links.items = omega (arith, c.len-number.ensures) in (
      record { front = map kept_of s.0; last = kept_of g; is = is; unfinished = omega (arith, within, n, many) },
      n,
      at,
    )
