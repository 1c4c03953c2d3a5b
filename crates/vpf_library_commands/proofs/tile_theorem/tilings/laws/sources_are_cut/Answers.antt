use Rattle.vpf_library_commands.proofs.tile_theorem.tilings.SourceDeciding.{KnownOfSources, cut_is_source, source_is_cut}
use Rattle.vpf_library_commands.proofs.tile_theorem.tilings.laws.sources_are_cut.Goals as goal

pub returns : goal.returns
returns c =
    let known : KnownOfSources = record {
      known = record {
        reading = record {
          opened = c.opened_is_read.ensures;
          spelled = c.read_is_spelled.ensures;
          writable = c.read_is_writable.ensures;
          stops = c.stops_decide.ensures;
          check = c.check_decides_agreement.ensures.coverage;
          features = c.features_decide.ensures;
        };
        counts = c.check_decides_agreement.ensures.counts;
        reads = c.check_decides_agreement.ensures.read;
        answers = c.trace_lists_cycles.ensures.some;
        traces = c.trace_lists_cycles.ensures.decides;
        tileable = c.made_agrees.ensures.tileable;
        made = c.made_with_features.ensures;
        no_schema = c.no_schema_table_is_made.ensures;
        schemas = c.features_are_held.ensures.read;
      };
      spelled = record { opened = c.spelled_is_opened.ensures; again = c.opened_is_read.ensures };
      opened = record { spelled = c.opened_is_spelled.ensures; again = c.opened_is_read.ensures };
      libraries = c.files_are_libraries.ensures.library;
      held = c.coverages_are_held.ensures.held;
      read = c.coverages_are_held.ensures.read;
      schema = c.features_are_held.ensures.held;
      plans = c.plans_decide.ensures;
      refusals = c.refusals_decide.ensures;
    } in
    record { cut = source_is_cut known; only = cut_is_source known }
