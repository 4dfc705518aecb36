use Rattle.npa_close.proofs.Originating.{all_originate}
use Rattle.npa_close.proofs.fresh.fresh_laws.Goals as goal

pub returns : goal.returns
returns c =
    let strands = c.args.ready.now.strands in
    record {
      originating = λ nf instances forms are. all_originate nf c.args.ready.now.sig strands (c.laws.ensures.originating nf forms) instances are;
      unsent = λ nf instances forms are schedule sent ex n kept t was part.
          c.freshness_laws.ensures.unsent nf strands instances schedule sent kept.place n kept.instance t
          (all_originate nf c.args.ready.now.sig strands (c.laws.ensures.originating nf forms) instances are) are.apart ex kept.there kept.silent kept.fresh was part;
      unheard = λ nf instances forms are schedule sent ex n kept i k instance event executed next part.
          c.freshness_laws.ensures.unheard nf strands instances schedule sent kept.place n kept.instance i k instance event
          (all_originate nf c.args.ready.now.sig strands (c.laws.ensures.originating nf forms) instances are) are.apart ex kept.there kept.silent kept.fresh executed next part;
    }
