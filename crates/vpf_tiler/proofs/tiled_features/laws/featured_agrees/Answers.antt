use Rattle.vpf_tiler.proofs.tiled_features.Featured as lemmas
use Rattle.vpf_tiler.proofs.tiled_features.laws.featured_agrees.Goals as goal

-- what is known of coverages and features that are held, and of tilings with features
known : goal.After-made_with_features → lemmas.KnownOfFeatures
known c = record {
  held = c.coverages_are_held.ensures.held;
  schema = c.features_are_held.ensures.held;
  schemas = c.features_are_held.ensures.read;
  made = c.made_with_features.ensures;
}

pub returns-clause-accepted : goal.returns-clause-accepted
returns-clause-accepted c = lemmas.featured_agrees (known c)

pub returns-clause-next : goal.returns-clause-next
returns-clause-next c = lemmas.featured_goes_on (known c)

pub returns-clause-cycles : goal.returns-clause-cycles
returns-clause-cycles c = lemmas.featured_has_cycles (known c)

pub returns-clause-glued : goal.returns-clause-glued
returns-clause-glued c = lemmas.featured_is_glued (known c)
