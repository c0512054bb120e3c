-- `meet_list` meets its contract: the pairs that are left, met from the leaders that stand now, leave what all of them leave of those at first.
use lib.ListN.{drop}
use Rattle.clustering.proofs.ByLists.{with}
use Rattle.clustering.proofs.Meeting.{Met}
use Rattle.clustering.proofs.links.meet_list.Given as goal

abbrev pub invariant-loop-d : goal.invariant-loop-d
invariant-loop-d g l = Met (g.L.Links.cells l.links) (g.L.Links.linked l.links) (with l.c l.list) (with l.c (drop l.d-index l.list)) l.initial.leaders l.leaders
