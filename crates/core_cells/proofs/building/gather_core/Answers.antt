-- `gather_core` meets its contract: what is copied are the core frames of the cell.
use Rattle.core_cells.proofs.Gathering.{cut_arranged, can_copy, copied_count, copied}
use Rattle.core_cells.proofs.building.gather_core.Goals as goal

pub invariant_of-grid : goal.invariant_of-grid
invariant_of-grid c = record { arranged = cut_arranged c.args.frames.now.ready c.requires.0 c.requires.2 c.split_at_mut-words.ensures.front c.split_at_mut-words.ensures.back }

pub copy_core-requires : goal.copy_core-requires
copy_core-requires c = can_copy c.args.frames.now.ready c.requires.0 c.requires.2 c.split_at_mut-words.ensures.front c.split_at_mut-words.ensures.back c.requires.1 c.frames_of.ensures

pub returns : goal.returns
returns c = record {
  value = copied_count c.args.frames.now.ready c.requires.0 c.requires.2 c.split_at_mut-words.ensures.front c.split_at_mut-words.ensures.back c.requires.1 c.frames_of.ensures c.copy_core.ensures.value;
  work_after = copied c.args.frames.now.ready c.requires.0 c.requires.2 c.split_at_mut-words.ensures.front c.split_at_mut-words.ensures.back c.requires.1 c.frames_of.ensures c.copy_core.ensures.work_after;
}
