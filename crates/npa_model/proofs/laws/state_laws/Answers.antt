use Rattle.npa_model.proofs.StateForms.{starts_alike, steps_alike, message_alike, made_form}
use Rattle.npa_model.proofs.laws.state_laws.Goals as goal

pub returns : goal.returns
returns c = record {
  starts = λ protocol nf mf instances result same ground s. starts_alike protocol.sig nf mf same protocol.strands instances result ground s;
  steps = λ protocol nf mf instances old new i result formed same are s. steps_alike protocol.sig nf mf same protocol.strands instances old new i result formed.strands are.each s;
  messages = λ sig nf mf sorts values t same below ground over. message_alike sig nf mf same sorts values t below ground over;
  made = λ th nf t cancel convergent gives ground. made_form th nf cancel convergent gives t ground;
}
