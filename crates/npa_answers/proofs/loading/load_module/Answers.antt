use Rattle.npa_answers.proofs.loading.load_module.Goals as goal

pub returns-in-Ok-clause-form : goal.returns-in-Ok-clause-form
returns-in-Ok-clause-form g c = c.in-Ok.ensures.form

pub returns-in-Ok-clause-plain : goal.returns-in-Ok-clause-plain
returns-in-Ok-clause-plain g c = c.in-Ok.ensures.plain
