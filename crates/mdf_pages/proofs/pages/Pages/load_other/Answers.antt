use Rattle.mdf_pages.proofs.pages.Pages.load_other.Goals as goal

pub invariant_of-self : goal.invariant_of-self
invariant_of-self g c =
    let now = c.args.self.now in
    record {
      attached = now.attached;
      sized = now.sized;
      pages = c.touch.ensures.pages (g.D.Disk.content now.disk) now.size now.pages;
      few = c.touch.ensures.few;
    }
