-- What a page of the program shows: its lent bytes, and how many of them are written.
use Rattle.printing.specs.declared.Page.{Page as LentPage}
use Rattle.printing.specs.Page.{Page, page}

abbrev pub shown : LentPage → Page
shown p = page p.all.now p.at
