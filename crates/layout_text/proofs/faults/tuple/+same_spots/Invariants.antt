use Rattle.std.proofs.Common.{length}
use Rattle.layout_text.proofs.faults.tuple.+same_spots.Given as goal

abbrev pub decreases-same_spots : goal.decreases-same_spots
decreases-same_spots l = length l.objects.now
