-- Each call is for fewer elements.
use Rattle.document_tree.proofs.editor.Editor.+grow.Given as goal

abbrev pub decreases-grow : goal.decreases-grow
decreases-grow g l = l.count
