-- The title on the page. Assumes nothing.
use Rattle.translate.proofs.Titled.{no-title, one-title}
use Rattle.translate.proofs.whole.put_title.Goals as goal

pub returns-then-titled : goal.returns-then-titled
returns-then-titled c = let r = one-title c.args.page.now _ _ c.put_line.ensures.value c.put_line.ensures.out_after in rw c.if-titled.true (record { value = r.0; puts = r.1 })

pub returns-else-titled : goal.returns-else-titled
returns-else-titled c = let r = no-title c.args.page.now in rw c.if-titled.false (record { value = r.0; puts = r.1 })
