use Rattle.watching.proofs.Views.{done_wide, are_views}
use Rattle.watching.proofs.laws.viewers_see_the_surface.Goals as goal

pub returns-clause-views : goal.returns-clause-views
returns-clause-views c n until kinds first es frames viewers leaves long below next some done = are_views n until kinds leaves first es long below next frames viewers some done

pub returns-clause-wide : goal.returns-clause-wide
returns-clause-wide c start changes frames kinds v long done = done_wide start changes frames kinds v long done
