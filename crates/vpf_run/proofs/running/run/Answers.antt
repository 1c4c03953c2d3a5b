use Rattle.std.proofs.Common.{◌≡◌, Option, Some, subst, sym}
use Rattle.std.specs.Prelude.{IfSome, map, string_bytes}
use Rattle.vpf_source.specs.Files.{Files, HoldsBytes}
use Rattle.vpf_run.proofs.Answering.{asked_side, words_answered}
use Rattle.vpf_run.proofs.CommandWords.{check_words, glue_words, tile_words, trace_words}
use Rattle.vpf_run.proofs.DrilledAnswers.{run_drills}
use Rattle.vpf_run.proofs.CheckedAnswers.{run_agrees, run_traces}
use Rattle.vpf_run.proofs.Grammared.{words_said}
use Rattle.vpf_run.proofs.JoinedAnswers.{run_glues}
use Rattle.vpf_run.proofs.ServedAnswers.{index_serves}
use Rattle.vpf_run.proofs.TiledAnswers.{run_answers, run_cuts, run_tiles}
use Rattle.vpf_run.proofs.running.run.Goals as goal

-- the files that a tree tells are of bytes
told_bytes : (told : Option Files) (files : Files) → IfSome told HoldsBytes → told ≡ Some files → HoldsBytes files
told_bytes told files bytes e = subst (λ (o : Option Files). IfSome o HoldsBytes) e bytes

pub returns-clause-indexed : goal.returns-clause-indexed
returns-clause-indexed g c files request answer e f agrees plain = c.do_words.ensures.answer answer (words_answered c.plain_answers.ensures _ _ files request answer e f agrees plain)

pub returns-clause-built : goal.returns-clause-built
returns-clause-built g c files request asked e f asks done = index_serves c.opened_is_read.ensures c.indexes_are_elsewhere.ensures c.made_indexes_serve.ensures (map string_bytes c.args.words.now) files request asked _ _ _ e f asks done c.do_words.ensures.answer

pub returns-clause-selected : goal.returns-clause-selected
returns-clause-selected g c files request e f agree =
    c.do_words.ensures.answer _ (words_said _ _ _ files _ e f (c.plain_selections.ensures files request agree))

pub returns-clause-spelled : goal.returns-clause-spelled
returns-clause-spelled g c command files name bytes grid answer e f has t said =
    c.do_words.ensures.answer answer (words_said _ _ command files answer e f (c.answers_follow_the_grammar.ensures.tables command files name bytes grid answer has t said))

pub returns-clause-faulty : goal.returns-clause-faulty
returns-clause-faulty g c command files name bytes place e f has fault over =
    c.do_words.ensures.answer _ (words_said _ _ command files _ e f (c.answers_follow_the_grammar.ensures.faults command files name bytes place has fault over))

pub returns-clause-checked : goal.returns-clause-checked
returns-clause-checked g c files rest request loaded e a f agrees =
    c.do_words.ensures.answer _ (words_said _ _ _ files _ (check_words _ rest request e a) f (c.checks_decide.ensures.said files request loaded agrees))

pub returns-clause-agrees : goal.returns-clause-agrees
returns-clause-agrees g c files rest request e a f done =
    let bytes = told_bytes _ files (g.met.T.Tree.of_bytes c.args.tree.now) f in
    run_agrees c.checks_decide.ensures.only (map string_bytes c.args.words.now) files request _ _ _ bytes (check_words _ rest request e a) f done c.do_words.ensures.answer

pub returns-clause-traced : goal.returns-clause-traced
returns-clause-traced g c files rest request loaded cycles e a f agrees lists =
    c.do_words.ensures.answer _ (words_said _ _ _ files _ (trace_words _ rest request e a) f (c.traces_list_cycles.ensures.said files request loaded cycles agrees lists))

pub returns-clause-traceable : goal.returns-clause-traceable
returns-clause-traceable g c files rest request e a f done =
    let bytes = told_bytes _ files (g.met.T.Tree.of_bytes c.args.tree.now) f in
    run_traces c.traces_list_cycles.ensures.some c.traces_list_cycles.ensures.only (map string_bytes c.args.words.now) files request _ _ _ bytes (trace_words _ rest request e a) f done c.do_words.ensures.answer

pub returns-clause-tiled : goal.returns-clause-tiled
returns-clause-tiled g c files rest request parts tables e a f source =
    let cut = c.sources_are_cut.ensures.cut files request parts tables source in
    c.do_words.ensures.answer _ (words_said _ _ _ files _ (tile_words _ rest request e a) f (sym (c.tiles_are_made.ensures files request parts tables cut)))

pub returns-clause-tileable : goal.returns-clause-tileable
returns-clause-tileable g c files rest request e a f done =
    let bytes = told_bytes _ files (g.met.T.Tree.of_bytes c.args.tree.now) f in
    run_cuts c.sources_are_cut.ensures.only c.requests_have_names.ensures c.args.words.now files request _ _ _ bytes (tile_words _ rest request e a) f done c.do_words.ensures.answer

pub returns-clause-rejoined : goal.returns-clause-rejoined
returns-clause-rejoined g c before after rest request parts tables e a told left done source alone lacks =
    let bytes = told_bytes _ before (g.met.T.Tree.of_bytes c.args.tree.now) told in
    let later = told_bytes _ after (g.met.T.Tree.of_bytes c.do_words.new.tree) left in
    run_tiles c.tilings_agree.ensures.listed c.rest_is_lacked.ensures c.sources_are_cut.ensures.cut c.tiles_are_made.ensures c.requests_have_names.ensures c.args.words.now before after request
    parts tables _ _ _ bytes later (tile_words _ rest request e a) told left done source alone lacks c.do_words.ensures.answer

pub returns-clause-answered : goal.returns-clause-answered
returns-clause-answered g c before after rest request parts tables e a told left done source alone lacks =
    let bytes = told_bytes _ before (g.met.T.Tree.of_bytes c.args.tree.now) told in
    let later = told_bytes _ after (g.met.T.Tree.of_bytes c.do_words.new.tree) left in
    run_answers c.tilings_agree.ensures.answered c.rest_is_lacked.ensures c.sources_are_cut.ensures.cut c.tiles_are_made.ensures c.requests_have_names.ensures c.args.words.now before after
    request parts tables _ _ _ bytes later (tile_words _ rest request e a) told left done source alone lacks c.do_words.ensures.answer

pub returns-clause-joined : goal.returns-clause-joined
returns-clause-joined g c before after rest request e a told left done =
    let bytes = told_bytes _ before (g.met.T.Tree.of_bytes c.args.tree.now) told in
    run_glues c.glue_decides_agreement.ensures (map string_bytes c.args.words.now) before after request _ _ _ bytes (glue_words _ rest request e a) told left done c.do_words.ensures.answer

pub returns-clause-drilled : goal.returns-clause-drilled
returns-clause-drilled g c request e =
    run_drills c.one_drill.ensures.some _ _ request _ _ _ e (asked_side c.requests_can_be_asked.ensures (map string_bytes c.args.words.now) request e)
    (c.do_words.ensures.drilled request e) c.do_words.ensures.answer
