use Rattle.vpf_library_commands.proofs.tile_theorem.tilings.TilingLemmas as lemmas
use Rattle.vpf_library_commands.proofs.tile_theorem.tilings.laws.tilings_agree.Goals as goal

pub returns-clause-held : goal.returns-clause-held
returns-clause-held c = lemmas.tilings_held (record {
  reading = record {
    opened = c.opened_is_read.ensures;
    spelled = c.read_is_spelled.ensures;
    writable = c.read_is_writable.ensures;
    stops = c.stops_decide.ensures;
    check = c.check_decides_agreement.ensures.coverage;
    features = c.features_decide.ensures;
  };
  counts = c.check_decides_agreement.ensures.counts;
  reads = c.check_decides_agreement.ensures.read;
  answers = c.trace_lists_cycles.ensures.some;
  traces = c.trace_lists_cycles.ensures.decides;
  tileable = c.made_agrees.ensures.tileable;
  made = c.made_with_features.ensures;
  no_schema = c.no_schema_table_is_made.ensures;
  schemas = c.features_are_held.ensures.read;
})

pub returns-clause-listed : goal.returns-clause-listed
returns-clause-listed c = lemmas.tilings_agree (record {
  reading = record {
    opened = c.opened_is_read.ensures;
    spelled = c.read_is_spelled.ensures;
    writable = c.read_is_writable.ensures;
    stops = c.stops_decide.ensures;
    check = c.check_decides_agreement.ensures.coverage;
    features = c.features_decide.ensures;
  };
  counts = c.check_decides_agreement.ensures.counts;
  reads = c.check_decides_agreement.ensures.read;
  answers = c.trace_lists_cycles.ensures.some;
  traces = c.trace_lists_cycles.ensures.decides;
  tileable = c.made_agrees.ensures.tileable;
  made = c.made_with_features.ensures;
  no_schema = c.no_schema_table_is_made.ensures;
  schemas = c.features_are_held.ensures.read;
})

pub returns-clause-answered : goal.returns-clause-answered
returns-clause-answered c = lemmas.tilings_answered (record {
  reading = record {
    opened = c.opened_is_read.ensures;
    spelled = c.read_is_spelled.ensures;
    writable = c.read_is_writable.ensures;
    stops = c.stops_decide.ensures;
    check = c.check_decides_agreement.ensures.coverage;
    features = c.features_decide.ensures;
  };
  counts = c.check_decides_agreement.ensures.counts;
  reads = c.check_decides_agreement.ensures.read;
  answers = c.trace_lists_cycles.ensures.some;
  traces = c.trace_lists_cycles.ensures.decides;
  tileable = c.made_agrees.ensures.tileable;
  made = c.made_with_features.ensures;
  no_schema = c.no_schema_table_is_made.ensures;
  schemas = c.features_are_held.ensures.read;
})
