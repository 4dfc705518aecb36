use Rattle.test_model.proofs.rows.executed.Goals as goal

pub start-requires-clause-params : goal.start-requires-clause-params
start-requires-clause-params c = λ k strand at. (c.requires.protocol.strands k strand at).params
