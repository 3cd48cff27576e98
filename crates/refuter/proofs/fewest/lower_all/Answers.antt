use Rattle.std.proofs.Common.{arith, ◌≡◌, ◌+◌, ◌<◌, ◌≤◌, min, inl, inr, sym, ap, subst, ◌∙◌, set, length, sum, ◌⊎◌}
use Rattle.std.proofs.Common.{MatchBool}
use Rattle.std.specs.Prelude.{slice_index}
use Rattle.std.specs.List.{AllByRecursion}
use Rattle.spec_core.specs.Sig.{IsSort}
use Rattle.refuter.specs.Fewest.{number_in, total}
use Rattle.refuter.proofs.Lowering.{each_more, each_start, each_end, lowers, lowers_others, stays, all_long, fell_more}
use Rattle.refuter.proofs.fewest.lower_all.Goals as goal
use Rattle.refuter.proofs.fewest.lower_all.Goals.{then-size-le-MOST_SYMBOLS+then-size-next, else-size-le-MOST_SYMBOLS}
use Rattle.refuter.proofs.fewest.lower_all.Goals.{else-size-le-MOST_SYMBOLS-via-then-size-le-MOST_SYMBOLS+else-size-next}
use Rattle.refuter.proofs.fewest.lower_all.Goals.{else-size-le-MOST_SYMBOLS-via-else-size-le-MOST_SYMBOLS}
use Rattle.spec_core.proofs.Rounds.{sum_set}

pub loop-number-init : goal.loop-number-init
loop-number-init c = record {
  each = λ s k. each_start c.args.sig.now (number_in c.args.row.now) (number_in c.args.next.now s)
      (number_in c.args.row.now s) s (ap (λ xs. number_in xs s) c.requires.same);
  fell = c.requires.same;
}

pub total_size-size-requires : goal.total_size-size-requires
total_size-size-requires c =
    let a = (c.requires.in_range c.loop-number.number c.info-info.result.now c.info-info.ensures).1 in
    all_long _ _ c.requires.long c.as_slice.result.now (subst (λ ss. AllByRecursion (IsSort c.args.sig.now) ss)
    (sym c.as_slice.ensures) a)

pub loop-number-preserved : goal.loop-number-preserved
loop-number-preserved c =
    let i = c.info-info.result.now in
    let f = number_in c.args.row.now in
    let next = c.loop-number.next in
    let size = 1 + c.total_size-size.result in
    let sized : size ≡ 1 + min (total f i.args) 4096 = ap (λ k. 1 + k) c.total_size-size.ensures
    ∙ ap (λ ss. 1 + min (total f ss) 4096) c.as_slice.ensures in
    let place : i.result.0 < length next = let r = (c.requires.in_range c.loop-number.number i
    c.info-info.ensures).0 in
    let same : length c.args.next.now ≡ length c.args.row.now = ap (λ xs. length xs) c.requires.same in
    omega (arith, c.requires.long, c.loop-number.auto.next) in
    let within = c.constructors-number-end.ensures.count in
    elim c.if-size-le-MOST_SYMBOLS.branch [
      | then-size-le-MOST_SYMBOLS+then-size-next w ↦
          let is : c.if-size-le-MOST_SYMBOLS.next ≡ set next i.result.0 size = w.next-is in
          record {
            each = λ s k. each_more c.args.sig.now f (number_in next) (number_in c.if-size-le-MOST_SYMBOLS.next)
                c.loop-number.number i c.info-info.ensures (omega (arith, within))
                (λ u q. ap (λ xs. number_in xs u) is ∙ lowers next i.result.0 size (total f i.args) place sized
                (omega arith) (omega arith) u q) (λ u q. ap (λ xs. number_in xs u) is
                ∙ lowers_others next i.result.0 size u q) s _ (c.loop-number.invariant.each s k);
            fell = subst (λ b. MatchBool b (sum c.if-size-le-MOST_SYMBOLS.next < sum c.args.row.now)
                (c.if-size-le-MOST_SYMBOLS.next ≡ c.args.row.now)) (sym w.lowered-is)
                (fell_more c.loop-number.lowered c.if-size-le-MOST_SYMBOLS.next next c.args.row.now
                c.loop-number.invariant.fell (let l : sum (set next i.result.0 size) < sum next = sum_set next
                i.result.0 size place (omega arith) in subst (λ xs. sum xs < sum next) (sym is) l));
          }
      | else-size-le-MOST_SYMBOLS w ↦
          let is : c.if-size-le-MOST_SYMBOLS.next ≡ next = w.next-is in
          let same : (255 < size) ⊎ (slice_index next i.result.0 ≤ size) = elim w.else-size-le-MOST_SYMBOLS.branch [
            | else-size-le-MOST_SYMBOLS-via-then-size-le-MOST_SYMBOLS+else-size-next v ↦ inr (omega arith)
            | else-size-le-MOST_SYMBOLS-via-else-size-le-MOST_SYMBOLS v ↦ inl (omega arith)
          ] in
          record {
            each = λ s k. each_more c.args.sig.now f (number_in next) (number_in c.if-size-le-MOST_SYMBOLS.next)
                c.loop-number.number i c.info-info.ensures (omega (arith, within))
                (λ u q. ap (λ xs. number_in xs u) is ∙ stays next i.result.0 size (total f i.args) sized same u
                q) (λ u q. ap (λ xs. number_in xs u) is) s _ (c.loop-number.invariant.each s k);
            fell = subst (λ b. MatchBool b (sum c.if-size-le-MOST_SYMBOLS.next < sum c.args.row.now)
                (c.if-size-le-MOST_SYMBOLS.next ≡ c.args.row.now)) (sym w.lowered-is)
                (subst (λ xs. MatchBool c.loop-number.lowered (sum xs < sum c.args.row.now)
                (xs ≡ c.args.row.now)) (sym is) c.loop-number.invariant.fell);
          }
    ]

pub returns-clause-each : goal.returns-clause-each
returns-clause-each c = λ s k. sym
    (each_end c.args.sig.now (number_in c.args.row.now) (number_in c.loop-number.next s) c.loop-number.number s
    (omega (arith, c.loop-number-test.false, c.constructors-number-end.ensures.count)))
    ∙ c.loop-number.invariant.each s k
