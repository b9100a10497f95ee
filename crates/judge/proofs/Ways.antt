-- The ways through each function, as sets of lemmas that the check is given.
use Rattle.judge.proofs.Blanks.{tested_blank, tested_not}
use Rattle.judge.proofs.Heads.{gap_none, gap_some, head_none, head_some, no_gap, some_gap}
use Rattle.std.proofs.lemmas.Bool.{not-false, not-true}
use Rattle.judge.proofs.Verdict.{decided, not_sound, not_tiled, wide_header}
use Rattle.judge.proofs.Visits.{passed_codes, passed_data}
use Rattle.judge.proofs.Labels.{label_early, label_late, label_unlawful}
use Rattle.judge.proofs.Steps.{block_unlabelled, block_unmarked, block_unnamed, visit_none, visit_nothing, visit_some}
use Rattle.judge.proofs.Steps.{gap_over, gap_past, gap_size, gap_used, gap_yes, gap_void, gap_wide, in_turn_end, in_turn_more, scan_end, scan_no_block, scan_no_gap, size_pos, size_told}

pub ruleset gap_ways = (head_none, head_some, gap_none, gap_wide, gap_void, gap_over, gap_past, gap_some, gap_yes, gap_used, tested_blank, tested_not)

pub ruleset tile_ways = (no_gap, some_gap, gap_size, size_pos, size_told, scan_end, scan_no_gap, scan_no_block)

pub ruleset array_ways = (visit_nothing, visit_none, visit_some, block_unlabelled, block_unmarked, block_unnamed, label_unlawful, label_early, label_late, passed_data, passed_codes, not-true, not-false)

pub ruleset block_ways = (in_turn_end, in_turn_more)

pub ruleset list_ways = (head_none, head_some, wide_header, not_tiled, not_sound, decided)
