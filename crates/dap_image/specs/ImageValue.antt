-- What an image has in it.
use Rattle.dap_image.specs.declared.image.Image.{Image}
use Rattle.dap_image.specs.Images as images

abbrev pub image_value : Image → images.Image
image_value image = (image.cells.items, image.start)
