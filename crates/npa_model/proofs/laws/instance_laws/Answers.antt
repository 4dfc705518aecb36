use Rattle.npa_model.proofs.InstanceLaws.{apart_exactly, instances_start, starting_instances}
use Rattle.npa_model.proofs.laws.instance_laws.Goals as goal

pub returns : goal.returns
returns c = record {
  apart = apart_exactly;
  faultless = instances_start;
  instances = starting_instances;
}
