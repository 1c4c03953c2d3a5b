use Rattle.vpf_tiler.proofs.MadeLemmas as lemmas
use Rattle.vpf_tiler.proofs.laws.made_agrees.Goals as goal

-- what is known of coverages, their tables, and their tilings
known : goal.After-gluing_gives_renumbered → lemmas.Known
known c = record {
  refusals = c.refusals_decide.ensures;
  held = c.coverages_are_held.ensures.held;
  read = c.cuts_are_read.ensures;
  columns = c.cuts_have_columns.ensures;
  tiles = c.tiles_are_writable.ensures;
  tileref = c.tilerefs_are_written.ensures.writable;
  tileref_read = c.tilerefs_are_written.ensures.read;
  made = c.made_is_held.ensures;
  agree = c.tiled_agrees.ensures;
  follows = c.following_is_next.ensures.next;
  named = c.map_is_named.ensures;
  listing = c.listing_is_named.ensures.listing;
  glued = c.gluing_gives_renumbered.ensures.glued;
}

pub returns-clause-tileable : goal.returns-clause-tileable
returns-clause-tileable c = lemmas.made_is_tileable (known c)

pub returns-clause-accepted : goal.returns-clause-accepted
returns-clause-accepted c = lemmas.made_agrees (known c)

pub returns-clause-next : goal.returns-clause-next
returns-clause-next c = lemmas.made_goes_on (known c)

pub returns-clause-cycles : goal.returns-clause-cycles
returns-clause-cycles c = lemmas.made_has_cycles (known c)

pub returns-clause-glued : goal.returns-clause-glued
returns-clause-glued c = lemmas.made_is_glued (known c)
