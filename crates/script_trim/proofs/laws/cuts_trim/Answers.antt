use Rattle.script_trim.proofs.FirstCuts.{shorter, cut_falls, cuts_trim, rests_one, cuts_one, reports_one}
use Rattle.script_trim.proofs.laws.cuts_trim.Goals as goal

pub returns : goal.returns
returns g c =
    let above = g.O.TermOrder.above c.args.order.now in
    let one = c.one_relation.ensures in
    record {
      shorter =
          λ spec report number i step rest fine a h p. shorter above spec one fine report number i step rest a h p;
      falls = λ spec old new fine a f. cut_falls above spec one fine old new a f;
      trims = λ spec old new a l. cuts_trim above spec old new a l;
      one_rest =
          λ spec report number i step rest other fine p q. rests_one above spec one fine report number i step rest
          other p q;
      one_cut = λ spec old new other fine p q. cuts_one above spec one fine old new other p q;
      one_report = λ spec old new other fine p q. reports_one above spec one fine old new other p q;
    }
