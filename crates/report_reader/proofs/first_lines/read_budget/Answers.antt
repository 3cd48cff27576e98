use Rattle.std.proofs.Common.{arith}
use Rattle.report_reader.proofs.BudgetReads.{from_nodes, from_plain, from_cut, from_skipped, at_tried, at_skipped}
use Rattle.report_reader.proofs.BudgetReads.{at_plain, at_nodes, past_depth, past_tried, past_skipped, past_cut}
use Rattle.report_reader.proofs.BudgetReads.{past_plain}
use Rattle.report_reader.proofs.first_lines.read_budget.Goals as goal

pub returns-in_err-tried : goal.returns-in_err-tried
returns-in_err-tried c =
    let d = c.in_ok-depth in
    rw c.from_residual-in_err-tried.ensures (λ b s e.
    let b1 = (past_depth b s c.args.words.now d.depth d.behind.now d.ensures e).1 in
    c.in_err-tried.ensures b.tried (from_skipped b) (at_tried b s d.behind.now b1))

pub returns-in_err-skipped : goal.returns-in_err-skipped
returns-in_err-skipped c =
    let d = c.in_ok-depth in
    let t = c.in_ok-tried in
    rw c.from_residual-in_err-skipped.ensures (λ b s e.
    let b1 = (past_depth b s c.args.words.now d.depth d.behind.now d.ensures e).1 in
    let b2 = past_tried b s d.behind.now t.tried t.behind.now t.ensures b1 in
    c.in_err-skipped.ensures b.skipped (from_cut b) (at_skipped b s t.behind.now b2))

pub returns-in_err-cut : goal.returns-in_err-cut
returns-in_err-cut c =
    let d = c.in_ok-depth in
    let t = c.in_ok-tried in
    let k = c.in_ok-skipped in
    rw c.from_residual-in_err-cut.ensures (λ b s e.
    let b1 = (past_depth b s c.args.words.now d.depth d.behind.now d.ensures e).1 in
    let b2 = past_tried b s d.behind.now t.tried t.behind.now t.ensures b1 in
    let b3 = past_skipped b s t.behind.now k.skipped k.behind.now k.ensures b2 in
    c.in_err-cut.ensures b.cut (from_plain b) b3)

pub returns-in_err-plain : goal.returns-in_err-plain
returns-in_err-plain c =
    let d = c.in_ok-depth in
    let t = c.in_ok-tried in
    let k = c.in_ok-skipped in
    let u = c.in_ok-cut in
    rw c.from_residual-in_err-plain.ensures (λ b s e.
    let b1 = (past_depth b s c.args.words.now d.depth d.behind.now d.ensures e).1 in
    let b2 = past_tried b s d.behind.now t.tried t.behind.now t.ensures b1 in
    let b3 = past_skipped b s t.behind.now k.skipped k.behind.now k.ensures b2 in
    let b4 = past_cut b s k.behind.now u.cut u.behind.now u.ensures b3 in
    c.in_err-plain.ensures b.plain (from_nodes b) (at_plain b s u.behind.now b4))

pub returns-in_err-nodes : goal.returns-in_err-nodes
returns-in_err-nodes c =
    let d = c.in_ok-depth in
    let t = c.in_ok-tried in
    let k = c.in_ok-skipped in
    let u = c.in_ok-cut in
    let p = c.in_ok-plain in
    rw c.from_residual-in_err-nodes.ensures (λ b s e.
    let b1 = (past_depth b s c.args.words.now d.depth d.behind.now d.ensures e).1 in
    let b2 = past_tried b s d.behind.now t.tried t.behind.now t.ensures b1 in
    let b3 = past_skipped b s t.behind.now k.skipped k.behind.now k.ensures b2 in
    let b4 = past_cut b s k.behind.now u.cut u.behind.now u.ensures b3 in
    let b5 = past_plain b s u.behind.now p.plain p.behind.now p.ensures b4 in
    c.in_err-nodes.ensures b.nodes (at_nodes b s p.behind.now b5))

pub returns-then-depth-gt-MAX_DEPTH : goal.returns-then-depth-gt-MAX_DEPTH
returns-then-depth-gt-MAX_DEPTH c =
    let d = c.in_ok-depth in
    λ b s e. omega (arith, (past_depth b s c.args.words.now d.depth d.behind.now d.ensures e).0, s.depth)
