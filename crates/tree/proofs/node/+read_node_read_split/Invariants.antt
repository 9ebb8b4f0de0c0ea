-- A node calls the split reader with one line less unread, the split reader calls the node reader on its own lines: the measures are
-- twice the unread lines, and one more for the split.
use Rattle.std.proofs.Common.{◌+◌, ◌*◌}
use Rattle.tree.proofs.Rows.{unread}
use Rattle.tree.proofs.node.+read_node_read_split.Given as goal

abbrev pub decreases-read_node : goal.decreases-read_node
decreases-read_node l = 2 * unread l.text.now l.at

abbrev pub decreases-read_split : goal.decreases-read_split
decreases-read_split l = 2 * unread l.text.now l.fork.next + 1
